-- Each probe brings the bounds closer, and the ways out are laws of `Bracketing`.
use Rattle.std.proofs.Common.{◌≡◌, ◌∙◌, subst, arith, Bool, true, false, List, None, ℕ, ℤ, ◌≤ℤ◌, ◌<ℤ◌, w32, to_z, of_z}
use Rattle.std.specs.Int.Signed.{lt_z}
use Rattle.integers.proofs.Laws.{ge_of_test, lt_of_test}
use Rattle.maps.specs.Map.{Map}
use Rattle.maximum.specs.inner.Bracket.{Bracket}
use Rattle.maximum.proofs.Gap.{gap_closer}
use Rattle.maximum.proofs.Bracketing.{Ground, ground_of, above_low, met, passed, bits_bracket, bracket_length, same_low, same_high}
use Rattle.maximum.proofs.close_in.Goals as goal

-- bounds that have not passed each other are in order
in_turn : {𝓜 : Map} (outer : ℕ) {c : ℕ → ℤ} {s t : ℕ} (ground : Ground 𝓜 c s t) (before flows : List ℤ) (A B : List ℕ) (low high : ℤ) (found : Bool)
    → Bracket 𝓜 outer c s t before flows A B low high found → lt_z (to_z w32 (of_z w32 high)) (to_z w32 (of_z w32 low)) ≡ false → low ≤ℤ high
in_turn outer ground before flows A B low high found b e =
    subst (λ l. l ≤ℤ high) (same_low outer ground before flows A B low high found b)
    (subst (λ h. to_z w32 (of_z w32 low) ≤ℤ h) (same_high outer ground before flows A B low high found b) (ge_of_test _ _ e))

-- and apart where a value is found and they have not met
apart : {𝓜 : Map} (outer : ℕ) {c : ℕ → ℤ} {s t : ℕ} (ground : Ground 𝓜 c s t) (before flows : List ℤ) (A B : List ℕ) (low high : ℤ) (found : Bool)
    → Bracket 𝓜 outer c s t before flows A B low high found → lt_z (to_z w32 (of_z w32 high)) (to_z w32 (of_z w32 low)) ≡ false
    → (found ≡ true → to_z w32 (of_z w32 low) ≡ to_z w32 (of_z w32 high) → ⊥) → found ≡ true → low <ℤ high
apart outer ground before flows A B low high found b e unmet f =
    subst (λ l. l <ℤ high) (same_low outer ground before flows A B low high found b)
    (subst (λ h. to_z w32 (of_z w32 low) <ℤ h) (same_high outer ground before flows A B low high found b)
    (above_low (to_z w32 (of_z w32 low)) (to_z w32 (of_z w32 high)) _ found (ge_of_test _ _ e) unmet (λ k. k) f))

pub returns-then-passed : goal.returns-then-passed
returns-then-passed c =
    let g = ground_of c.requires.0.lent c.requires.0.small in
    let l = c.loop-terminals in (
      l.invariant.size_parents,
      c.join.ensures.0,
      passed c.args.sizes.outer g c.args.flows.now l.flows l.a l.b _ _ l.bounds.found
          (bits_bracket c.args.sizes.outer g c.args.flows.now l.flows l.a l.b l.bounds.low l.bounds.high l.bounds.found l.invariant.bracket)
          (lt_of_test _ _ c.if-passed.true) c.join.new.a c.join.ensures.1,
    )

pub returns-then-finished : goal.returns-then-finished
returns-then-finished c =
    let g = ground_of c.requires.0.lent c.requires.0.small in
    let l = c.loop-terminals in
    let r = c.finished.ensures.0 c.if-finished.true in (
      l.invariant.size_parents,
      l.invariant.size_a,
      met c.args.sizes.outer g c.args.flows.now l.flows l.a l.b _ _ l.bounds.found
          (bits_bracket c.args.sizes.outer g c.args.flows.now l.flows l.a l.b l.bounds.low l.bounds.high l.bounds.found l.invariant.bracket)
          r.0 r.1,
    )

pub probe-requires : goal.probe-requires
probe-requires c =
    let p = c.requires.0 in
    let g = ground_of p.lent p.small in
    let l = c.loop-terminals in
    let v = l.invariant in (
      (
        c.args.flows.now,
        record {
          lent = record {
            opened = p.lent.opened;
            ends = p.lent.ends;
            exact = bracket_length l.bounds.found (omega (arith, p.lent.exact)) v.bracket ∙ p.lent.exact;
          };
          small = p.small;
          size_a = v.size_a;
          size_b = v.size_b;
          bracket = v.bracket;
        },
      ),
      v.size_parents,
      in_turn c.args.sizes.outer g c.args.flows.now l.flows l.a l.b l.bounds.low l.bounds.high l.bounds.found v.bracket c.if-passed.false,
      apart c.args.sizes.outer g c.args.flows.now l.flows l.a l.b l.bounds.low l.bounds.high l.bounds.found v.bracket c.if-passed.false
          (c.finished.ensures.1 c.if-finished.false),
    )

pub returns-in_err-bounds : goal.returns-in_err-bounds
returns-in_err-bounds c =
    let e = c.in_err-bounds.ensures in
    let none : c.from_residual.result ≡ None = c.from_residual.ensures in
    (e.0, e.1, rw none (e.4 c.args.flows.now c.loop-terminals.invariant.bracket))

pub loop-terminals-smaller : goal.loop-terminals-smaller
loop-terminals-smaller c =
    let g = ground_of c.requires.0.lent c.requires.0.small in
    let l = c.loop-terminals in
    let r = c.in_ok-bounds.bounds in
    gap_closer l.bounds.low l.bounds.high l.bounds.found r.low r.high r.found
    (in_turn c.args.sizes.outer g c.args.flows.now l.flows l.a l.b l.bounds.low l.bounds.high l.bounds.found l.invariant.bracket c.if-passed.false)
    c.in_ok-bounds.ensures.3

pub loop-terminals-preserved : goal.loop-terminals-preserved
loop-terminals-preserved c =
    let e = c.in_ok-bounds.ensures in
    record { size_a = e.1; size_b = e.2; size_parents = e.0; bracket = e.4 c.args.flows.now c.loop-terminals.invariant.bracket }
