-- Mark meets its contract: the flows within their capacities, the sums at the nodes, and the value, the sum at the source.
use mathlib.Core.Path.{refl, ◌∙◌}
use Prim.Native.Nat.{◌-◌}
use native.Mathlib.Omega.{arith}
use lib.ListN.{take}
use lib.IntN.{pos}
use borrow.Author.Rules.{rules}
use Rattle.std.specs.Prelude.{Ok, Err}
use Rattle.std.proofs.lemmas.Grind.{common_steps}
use Rattle.flows.specs.Check.{EndOf}
use Rattle.arrays.specs.At.{atℤ}
use Rattle.arrays.specs.Maps.{map_of, drawing_of}
use Rattle.arrays.proofs.FillLoops.{same_everywhere}
use Rattle.balance.proofs.Parts.{part_length, part_net, part_within, part_balance}
use Rattle.questions.proofs.Asked.{ends_in}
use Rattle.questions.proofs.Marking.{mark_within, mark_balance, mark_none, flows_small, net_of, ends_balanced}
use Rattle.questions.proofs.mark.Goals as goal

pub returns-in_err-check_within : goal.returns-in_err-check_within
returns-in_err-check_within c =
    let a = c.args in
    let 𝓓 = drawing_of a.sizes.nodes a.sizes.edges a.sizes.outer a.tails.now a.rotations.now a.capacities.now in
    let within = part_within 𝓓.map a.flows.now 𝓓.capacity (Err c.in_err-check_within.field-0.0) c.in_err-check_within.ensures in
    let first = mark_within 𝓓 a.terminals.source a.terminals.sink a.flows.now c.in_ok-check_ends.ensures c.if-flows-many.false _ _ within in
    grind (arith, common_steps)

-- ── the sums at the nodes ──
pub fill_nets-requires : goal.fill_nets-requires
fill_nets-requires c =
    let a = c.args in
    let p = c.requires in (
      p.few_edges,
      omega (arith, part_length a.sizes.edges a.flows.now c.if-flows-many.false),
      refl,
      (λ d l. omega (arith, p.tails_in d l, p.few_nodes)),
      flows_small (map_of a.sizes.nodes a.sizes.edges a.tails.now a.rotations.now) (atℤ (take (a.sizes.edges - 0) a.flows.now)) (atℤ a.capacities.now) p.small
          c.in_ok-check_within.ensures,
      same_everywhere 1024 (pos 0),
    )

pub returns-in_err-check_balance : goal.returns-in_err-check_balance
returns-in_err-check_balance c =
    let a = c.args in
    let s = a.terminals.source in
    let t = a.terminals.sink in
    let 𝓓 = drawing_of a.sizes.nodes a.sizes.edges a.sizes.outer a.tails.now a.rotations.now a.capacities.now in
    let within = part_within 𝓓.map a.flows.now 𝓓.capacity (Ok tt) c.in_ok-check_within.ensures in
    let lent = atℤ (take (a.sizes.edges - 0) a.flows.now) in
    let off = ends_balanced 𝓓.map lent c.requires.few_nodes c.fill_nets.new.nets c.fill_nets.ensures.1 s t (Err c.in_err-check_balance.field-0.0)
    c.in_err-check_balance.ensures in
    let balance = part_balance 𝓓.map a.flows.now (EndOf s t) (Err c.in_err-check_balance.field-0.0) off in
    let first = mark_balance 𝓓 s t a.flows.now c.in_ok-check_ends.ensures c.if-flows-many.false within _ _ balance in
    grind (arith, common_steps)

-- ── the value ──
pub offset_bounds-nets-source : goal.offset_bounds-nets-source
offset_bounds-nets-source c = omega (arith, (ends_in _ _ _ c.in_ok-check_ends.ensures).0)

pub bounds-nets-source : goal.bounds-nets-source
bounds-nets-source c = omega (arith, (ends_in _ _ _ c.in_ok-check_ends.ensures).0)

pub returns : goal.returns
returns c =
    let a = c.args in
    let s = a.terminals.source in
    let t = a.terminals.sink in
    let 𝓓 = drawing_of a.sizes.nodes a.sizes.edges a.sizes.outer a.tails.now a.rotations.now a.capacities.now in
    let within = part_within 𝓓.map a.flows.now 𝓓.capacity (Ok tt) c.in_ok-check_within.ensures in
    let lent = atℤ (take (a.sizes.edges - 0) a.flows.now) in
    let nets = c.fill_nets.new.nets in
    let off = ends_balanced 𝓓.map lent c.requires.few_nodes nets c.fill_nets.ensures.1 s t (Ok tt) c.in_ok-check_balance.ensures in
    let balance = part_balance 𝓓.map a.flows.now (EndOf s t) (Ok tt) off in
    let value = net_of 𝓓.map lent c.requires.few_nodes nets c.fill_nets.ensures.1 s (ends_in _ _ _ c.in_ok-check_ends.ensures).0 in (
      mark_none 𝓓 s t a.flows.now c.in_ok-check_ends.ensures c.if-flows-many.false within balance,
      search rules ∙ value ∙ part_net 𝓓.map a.flows.now s,
    )
