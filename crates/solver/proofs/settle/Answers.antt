-- The search's answer, and where it is settled the flows: what `fill_flows` requires is `flowing`. The roots stand in the queue.
use Rattle.std.proofs.Common.{◌≡◌, true, List, ℕ, Ok, Err, is_ok, refl, sym, ◌∙◌, arith}
use mathlib.Core.Bool.{true≢false}
use lib.IntN.{ℤ}
use Rattle.arrays.specs.At.{atℤ}
use Rattle.search.specs.Dual.{Dual}
use Rattle.search.specs.Outcome.{Outcome}
use Rattle.search.specs.inner.Answer.{Answer}
use Rattle.search.specs.inner.Settled.{Settled}
use lib.ListN.{get_or-replicate}
use lib.IntN.{pos}
use Rattle.search.specs.Level.{far}
use Rattle.solver.proofs.SettledFlows.{flowing}
use Rattle.solver.proofs.settle.Goals as goal

pub search-searched-requires : goal.search-searched-requires
search-searched-requires c =
    let p = c.requires in
    let q = p.searchable in (
      q.sound,
      q.joined,
      p.groups,
      refl,
      p.size_parents,
      refl,
      p.size_queue,
      p.few_roots,
      λ f l. get_or-replicate 1024 f far (pos 0) l,
      λ f l. get_or-replicate 1024 f 0 0 l,
    )

-- ── the search is settled ──
settled_of : (N : Dual) (ρ : List ℤ) (parents : List ℕ) (o : Outcome) → is_ok o ≡ true → Answer N ρ parents o → Settled N (atℤ ρ)
settled_of N ρ parents (Ok _) e a = a
settled_of N ρ parents (Err r) e a = absurd (true≢false (sym e))

pub fill_flows-requires : goal.fill_flows-requires
fill_flows-requires c =
    let p = c.requires in
    let a = c.search-searched.ensures.0 in
    (p.few_edges, omega (arith, p.exact), flowing p.searchable _ (settled_of _ _ _ _ (sym c.is_ok.ensures.value ∙ c.if-is_ok.true) a))
