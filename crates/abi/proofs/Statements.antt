-- The statements of specs/Statements.antt: what each result says by proofs/Refusals.antt, that no list has an 11 by proofs/Numbered.antt.
use Rattle.parties.specs.Shared.{shared_drawing}
use Rattle.abi.specs.Statements.{Results, NeverEleven}
use Rattle.abi.proofs.Refusals as says
use Rattle.abi.proofs.Numbered.{
  never_eleven,
  read_numbered,
  write_numbered,
  solve_numbered,
  largest_numbered,
  after_numbered,
  range_numbered,
  raise_numbered,
  page_numbered,
  mark_numbered,
  levels_numbered,
  settings_numbered,
  totals_numbered,
  examine_numbered,
  printed_numbered,
  key_numbered,
  practice_numbered,
  dimacs_numbered,
  sheet_numbered,
  ask_numbered,
  commit_numbered,
}

pub results : Results
results = record {
  read_says = λ s tails rotations tails' rotations' capacities capacities' nodes nodes' edges edges' outer outer' place place' result h. says.read_says s h;
  write_says = λ nodes outer tails rotations sheet sheet' capacities length length' place place' result h. says.write_says nodes outer tails rotations
      capacities h;
  solve_says = λ s source sink value flows flows' set set' can can' size size' place place' result h. says.solve_says s h;
  largest_says = λ s source sink flows flows' set set' found found' value value' place place' result h. says.largest_says s h;
  range_says = λ s source sink low low' below below' high high' above above' found found' least least' largest largest' place place' result h.
      says.range_says s h;
  raise_says = λ s source sink value edge flows flows' set set' found found' limit limit' place place' result h. says.raise_says s edge h;
  after_says = λ s b w n source sink limits limits' flows flows' set set' found found' value value' place place' result h. says.after_says s b w n h;
  page_says = λ s count sources sinks values flows flows' sets sets' answers answers' sizes sizes' place place' result h.
      says.page_says s count sources sinks values h;
  mark_says = λ s source sink flows value value' place place' result h. says.mark_says s source sink flows h;
  levels_says = λ s flows levels levels' place place' result h. says.levels_says s flows h;
  settings_says = λ s levels flows flows' place place' result h. says.settings_says s levels h;
  totals_says = λ s set out out' total total' place place' result h. says.totals_says s set h;
  dimacs_says = λ s source sink text text' length length' place place' result h. says.dimacs_says s source sink h;
  practice_says = λ rows columns seed sheet sheet' length length' place place' result h. says.practice_says rows columns seed h;
  examine_says = λ s source sink value claims kinds settings sets points points' number number' sum sum' least least' greatest greatest' place place' result h.
      says.examine_says s claims kinds settings sets h;
  key_says = λ input text text' length length' place place' result h. says.key_says input text h;
  start_says = λ s S' place place' result h. says.start_says s S' h;
  ask_says = λ S S' p source sink value flows flows' set set' can can' size size' place place' result h. says.ask_says S S' p h;
  commit_says = λ S S' p place place' result h. says.commit_says S S' p h;
}

pub never_given : NeverEleven
never_given = record {
  read = λ s tails rotations capacities. never_eleven _ (read_numbered s tails rotations capacities);
  write = λ nodes outer tails rotations capacities sheet. never_eleven _ (write_numbered nodes outer tails rotations capacities sheet);
  solve = λ s source sink value flows set. never_eleven _ (solve_numbered s source sink value flows set);
  largest = λ s source sink flows set. never_eleven _ (largest_numbered s source sink flows set);
  range = λ s source sink low below high above. never_eleven _ (range_numbered s source sink low below high above);
  raise = λ s source sink value edge flows set. never_eleven _ (raise_numbered s source sink value edge flows set);
  after = λ s b w n source sink limits flows set. never_eleven _ (after_numbered s b w n source sink limits flows set);
  page = λ s count flows sets. never_eleven _ (page_numbered s count flows sets);
  mark = λ s source sink flows. never_eleven _ (mark_numbered s source sink flows);
  levels = λ s flows levels. never_eleven _ (levels_numbered s flows levels);
  settings = λ s levels flows. never_eleven _ (settings_numbered s levels flows);
  totals = λ s set out. never_eleven _ (totals_numbered s set out);
  dimacs = λ s source sink text. never_eleven _ (dimacs_numbered s source sink text);
  practice = λ rows columns seed sheet. never_eleven _ (practice_numbered rows columns seed sheet);
  examine = λ s source sink value n kinds settings sets points. never_eleven _ (examine_numbered s source sink value n kinds settings sets points);
  key = λ b. never_eleven _ (printed_numbered b);
  key_room = λ text. never_eleven _ (key_numbered text);
  start = λ s. never_eleven _ (sheet_numbered s);
  ask = λ S party source sink value flows set. never_eleven _ (ask_numbered (shared_drawing S) (S.standing party) party source sink value flows set);
  commit = λ S party. never_eleven _ (commit_numbered S party);
}
