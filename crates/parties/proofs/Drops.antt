-- Document 02, Job 13, on limits left: the set that Ask names excludes the delivery in parts too.
use Rattle.std.specs.Prelude.{Ok}
use Rattle.flows.specs.ProvingSet.{member}
use Rattle.arrays.specs.At.{atℤ}
use Rattle.records.specs.Sheet.{nodes_of, edges_of}
use Rattle.questions.specs.declared.Solution.TheVariants.{Cannot}
use Rattle.questions.proofs.Asked as questions
use Rattle.analyser.proofs.Drops.{set_in_drops}
use Rattle.parties.specs.Drops.{InDropsLeft}
use Rattle.parties.proofs.Statements.{reached_kept, answered, asked_of}

pub in-drops-left : InDropsLeft
in-drops-left = record {
  ask_in_drops = λ s S S' fs p source sink value flows flows' set set' n r a.
      let h = answered s S fs r p source sink value flows flows' set set' S' (Ok (Cannot n)) a in
      let asked = asked_of s S fs r p source sink value flows flows' set set' h.0 in
      set_in_drops s (reached_kept r).sheet source sink (questions.accepted (nodes_of s) (edges_of s) source sink flows set value asked).ends_two
      (atℤ S.left) value (member h.1.0) h.1.2;
}
