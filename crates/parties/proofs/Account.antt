-- The account: what is kept of a session begun by an accepted start, from call to call. On each dart the limit left and the flows let in since the last clear
-- add up to the sheet's limit; an offer that is not stale keeps within the limits left; once something is let in no limit left is below zero.
use Prim.Native.Nat.{ℕ, ◌+◌, ◌*◌, ◌<◌}
use mathlib.Core.Path.{◌≡◌, refl, sym, ◌∙◌, ap, subst}
use mathlib.Core.Bool.{Bool, true, false, cond}
use mathlib.Core.List.{List, [], ◌∷◌}
use native.Mathlib.Omega.{arith}
use native.Mathlib.Decide.{ℕ_discrete}
use lib.Dec.{eqb}
use lib.IntN.{ℤ, pos, negsuc, ◌+ℤ◌, ◌-ℤ◌, +ℤ_idr}
use lib.Signed.{◌≤ℤ◌}
use Rattle.std.specs.Prelude.{Result, Ok, Err}
use Rattle.integers.proofs.Omega.{atoms₁, atoms₂, atoms₃, atoms₄, atoms₅, parts, equal, at_most, from_equal, from_at_most}
use Rattle.integers.proofs.Tests.{eqb_true, eqb_false}
use Rattle.refusals.specs.Order.{NoneOf}
use Rattle.refusals.specs.declared.Refusal.{Refusal}
use Rattle.maps.specs.Dart.{rev}
use Rattle.maps.specs.Map.{Map}
use Rattle.maps.proofs.Darts.{rev_in, rev_even}
use Rattle.flows.specs.Settings.{on_darts, Within}
use Rattle.flows.proofs.Agreement.{within_agrees}
use Rattle.arrays.specs.At.{atℤ}
use Rattle.arrays.specs.Filled.{filled}
use Rattle.arrays.proofs.FillLoops.{filled_front}
use Rattle.records.specs.Sheet.{nodes_of, edges_of, outer_of, capacity_of, sheet_map}
use Rattle.records.proofs.Bytes.{bytes_range, bytes_pairs}
use Rattle.sheets.specs.Open.{sheet_checks}
use Rattle.sheets.proofs.Accepted.{sheet_bytes, sheet-map, sheet_counts, sheet_outer}
use Rattle.sheets.proofs.Opening.{maps_are}
use Rattle.questions.specs.declared.Solution.{Solution}
use Rattle.questions.specs.declared.Solution.TheVariants.{Can, Cannot}
use Rattle.analyser.proofs.SheetPlane.{capacity_small}
use Rattle.sessions.specs.Fit.{PairFits, Fit, Lowerable}
use Rattle.parties.specs.Shared.{idle, offered, stale, committed, Shared, shared_drawing, put, staled, flows_of, lowered_by, let_in, cleared}
use Rattle.parties.specs.Start.{started}
use Rattle.parties.specs.Calls.{Asks}
use Rattle.parties.specs.Reached.{total}
use Rattle.parties.proofs.Starting.{tails_read, rotations_read, limits_read}
use Rattle.parties.proofs.Totals.{total_antisymmetric}
use Rattle.parties.proofs.Taking.{edge-flow}

-- once something was let in, no limit left is below zero
unfoldable pub Above : (edges : ℕ) → (ℕ → ℤ) → List (List ℤ) → Type 0
Above edges left [] = Unit
Above edges left (xs ∷ fs) = (d : ℕ) → d < 2 * edges → pos 0 ≤ℤ left d

pub record Kept (s : List ℕ) (S : Shared) (fs : List (List ℤ)) : Type 0 where
  pub sheet : NoneOf (sheet_checks s)
  pub map_is : (shared_drawing S).map ≡ sheet_map s
  pub outer_is : S.outer ≡ outer_of s
  pub limits_are : atℤ S.limits ≡ capacity_of s
  pub untouched : fs ≡ [] → S.left ≡ S.limits
  pub account : (d : ℕ) → d < 2 * edges_of s → atℤ S.left d +ℤ total fs d ≡ capacity_of s d
  pub fresh : (p : ℕ) → S.standing p ≡ offered → Within (sheet_map s) (atℤ S.left) (atℤ (S.offer p))
  pub above : Above (edges_of s) (atℤ S.left) fs

-- ── the start, and a clear ──
all_left : (s : List ℕ) (S : Shared) → S.left ≡ S.limits → atℤ S.limits ≡ capacity_of s → (d : ℕ) → atℤ S.left d +ℤ total [] d ≡ capacity_of s d
unfolding total
all_left s S e c d = +ℤ_idr (atℤ S.left d) ∙ ap (λ (l : List ℤ). atℤ l d) e ∙ ap (λ (f : ℕ → ℤ). f d) c

pub start_kept : (s : List ℕ) → NoneOf (sheet_checks s) → Kept s (started s) []
unfolding Above
start_kept s h = record {
  sheet = h;
  map_is = maps_are s (nodes_of s) (edges_of s) (started s).tails (started s).rotations refl refl (tails_read s h) (rotations_read s h);
  outer_is = refl;
  limits_are = limits_read s h;
  untouched = λ e. refl;
  account = λ d l. all_left s (started s) refl (limits_read s h) d;
  fresh = λ p e. absurd (omega (arith, e));
  above = tt;
}

pub clear_kept : {s : List ℕ} {S : Shared} {fs : List (List ℤ)} → Kept s S fs → Kept s (cleared S) []
unfolding Above
clear_kept {s} {S} k = record {
  sheet = k.sheet;
  map_is = k.map_is;
  outer_is = k.outer_is;
  limits_are = k.limits_are;
  untouched = λ e. refl;
  account = λ d l. all_left s (cleared S) refl k.limits_are d;
  fresh = λ p e. absurd (omega (arith, e));
  above = tt;
}

-- ── a question ──
edges_is : (s : List ℕ) (S : Shared) → (shared_drawing S).map ≡ sheet_map s → S.edges ≡ edges_of s
edges_is s S e = ap (λ (𝓜 : Map). 𝓜.edges) e

-- one party's offer put: it keeps within the limits left if it is one, and the others' are as they were
put_fresh : (P : List ℤ → Type 0) (S : Shared) (p a : ℕ) (xs : List ℤ) → (a ≡ offered → P xs) → ((q : ℕ) → S.standing q ≡ offered → P (S.offer q))
    → (q : ℕ) → (put S p a xs).standing q ≡ offered → P ((put S p a xs).offer q)
put_fresh P S p a xs own others q = by (ℕ_discrete q p)
  where
    by : Dec (q ≡ p) → (put S p a xs).standing q ≡ offered → P ((put S p a xs).offer q)
    by (yes e) = subst (λ t. cond t a (S.standing q) ≡ offered → P (cond t xs (S.offer q))) (sym (eqb_true q p e)) own
    by (no e) = subst (λ t. cond t a (S.standing q) ≡ offered → P (cond t xs (S.offer q))) (sym (eqb_false q p e)) (others q)

put_kept : {s : List ℕ} {S : Shared} {fs : List (List ℤ)} (p a : ℕ) (xs : List ℤ) → (a ≡ offered → Within (sheet_map s) (atℤ S.left) (atℤ xs))
    → Kept s S fs → Kept s (put S p a xs) fs
put_kept {s} {S} p a xs own k = record {
  sheet = k.sheet;
  map_is = k.map_is;
  outer_is = k.outer_is;
  limits_are = k.limits_are;
  untouched = k.untouched;
  account = k.account;
  fresh = put_fresh (λ ys. Within (sheet_map s) (atℤ S.left) (atℤ ys)) S p a xs own k.fresh;
  above = k.above;
}

-- "can": the offer is the settings given, which keep within the limits left
can_within : (s : List ℕ) (S : Shared) (p source sink : ℕ) (value : ℤ) (flows flows' : List ℤ) (set set' : List ℕ) (S' : Shared)
    → Asks S p source sink value flows flows' set set' S' (Ok Can) → (shared_drawing S).map ≡ sheet_map s
    → Within (sheet_map s) (atℤ S.left) (atℤ (filled S.edges (atℤ flows') (S.offer p)))
can_within s S p source sink value flows flows' set set' S' a m =
    subst (λ 𝓜. Within 𝓜 (atℤ S.left) (atℤ kept)) m
    (within_agrees (shared_drawing S).map x (atℤ kept) same (atℤ S.left) a.solved.1.1.carries.within)
  where
    kept : List ℤ
    kept = filled S.edges (atℤ flows') (S.offer p)

    x : ℕ → ℤ
    x = a.solved.1.0

    same : (e : ℕ) → e < S.edges → x e ≡ atℤ kept e
    same e l =
        sym (filled_front (pos 0) S.edges x flows flows' a.solved.1.2 e l)
        ∙ sym (filled_front (pos 0) S.edges (atℤ flows') (S.offer p) kept refl e l)

pub ask_kept : {s : List ℕ} {S : Shared} {fs : List (List ℤ)} (p source sink : ℕ) (value : ℤ) (flows flows' : List ℤ) (set set' : List ℕ) (S' : Shared)
    (answer : Result Solution Refusal) → Asks S p source sink value flows flows' set set' S' answer → Kept s S fs → Kept s S' fs
ask_kept {s} {S} {fs} p source sink value flows flows' set set' S' (Ok Can) a k =
    subst (λ T. Kept s T fs) (sym a.after)
    (put_kept p offered _ (λ e. can_within s S p source sink value flows flows' set set' S' a k.map_is) k)
ask_kept {s} {S} {fs} p source sink value flows flows' set set' S' (Ok (Cannot n)) a k =
    subst (λ T. Kept s T fs) (sym a.after) (put_kept p idle _ (λ e. absurd (omega (arith, e))) k)
ask_kept {s} {S} {fs} p source sink value flows flows' set set' S' (Err r) a k = subst (λ T. Kept s T fs) (sym a.after) k

-- ── a commit ──
-- what is left of a dart's limit after flows are let in
pub left_lowered : (edges : ℕ) (left xs : List ℤ) (d : ℕ) → d < 2 * edges → atℤ (lowered_by edges left xs) d ≡ atℤ left d -ℤ on_darts (atℤ xs) d
left_lowered edges left xs d l = filled_front (pos 0) (2 * edges) (λ d. atℤ left d -ℤ on_darts (atℤ xs) d) left _ refl d l

-- no offer is fresh after a commit
none_fresh : (t : Bool) (a : ℕ) → cond t committed (staled a) ≡ offered → ⊥
none_fresh true a e = absurd (omega (arith, e))
none_fresh false a e = by (ℕ_discrete a offered)
  where
    by : Dec (a ≡ offered) → ⊥
    by (yes h) = absurd (omega (arith, sym (ap (λ t. cond t stale a) (eqb_true a offered h)) ∙ e))
    by (no h) = h (sym (ap (λ t. cond t stale a) (eqb_false a offered h)) ∙ e)

pub commit_kept : {s : List ℕ} {S : Shared} {fs : List (List ℤ)} (p : ℕ) → S.standing p ≡ offered → Kept s S fs → Kept s (let_in S p) (flows_of S p ∷ fs)
unfolding total Above
commit_kept {s} {S} {fs} p e k = record {
  sheet = k.sheet;
  map_is = k.map_is;
  outer_is = k.outer_is;
  limits_are = k.limits_are;
  untouched = λ h. absurd (omega (arith, ap lib.ListN.length h));
  account = balance;
  fresh = λ q h. absurd (none_fresh (eqb q p) (S.standing q) h);
  above = high;
}
  where
    inside : (d : ℕ) → d < 2 * edges_of s → d < 2 * S.edges
    inside d l = subst (λ n. d < 2 * n) (sym (edges_is s S k.map_is)) l

    balance : (d : ℕ) → d < 2 * edges_of s → atℤ (let_in S p).left d +ℤ (on_darts (atℤ (flows_of S p)) d +ℤ total fs d) ≡ capacity_of s d
    balance d l =
        ap (λ z. z +ℤ (on_darts (atℤ (flows_of S p)) d +ℤ total fs d)) (left_lowered S.edges S.left (flows_of S p) d (inside d l))
        ∙ (let a = atoms₃ (atℤ S.left d) (on_darts (atℤ (flows_of S p)) d) (total fs d) in equal (search parts) (omega arith))
        ∙ k.account d l

    fits : (d : ℕ) → d < 2 * edges_of s → on_darts (atℤ (flows_of S p)) d ≤ℤ atℤ S.left d
    fits d l = subst (λ z. z ≤ℤ atℤ S.left d) (edge-flow S.edges (S.offer p) d (inside d l)) (k.fresh p e d l)

    high : (d : ℕ) → d < 2 * edges_of s → pos 0 ≤ℤ atℤ (let_in S p).left d
    high d l =
        subst (λ z. pos 0 ≤ℤ z) (sym (left_lowered S.edges S.left (flows_of S p) d (inside d l)))
        (let a = atoms₂ (atℤ S.left d) (on_darts (atℤ (flows_of S p)) d) in
        at_most (search parts) (omega (arith, from_at_most (fits d l) (search parts))))

-- ── what follows of the limits left ──
module _ {s : List ℕ} {S : Shared} {fs : List (List ℤ)} (k : Kept s S fs) where
  pub sums_kept : (d : ℕ) → d < 2 * edges_of s → atℤ S.left d +ℤ atℤ S.left (rev d) ≡ capacity_of s d +ℤ capacity_of s (rev d)
  sums_kept d l =
      let a = atoms₅ (atℤ S.left d) (atℤ S.left (rev d)) (capacity_of s d) (capacity_of s (rev d)) (total fs d) in
      let b = atoms₁ (total fs (rev d)) in
      equal (search parts)
      (omega (
        arith,
        from_equal (k.account d l) (search parts),
        from_equal (k.account (rev d) (rev_in (edges_of s) d l)) (search parts),
        from_equal (total_antisymmetric (sheet_map s) fs d l) (search parts),
      ))

  pub left_range : (d : ℕ) → d < 2 * edges_of s → (negsuc 999999 ≤ℤ atℤ S.left d) × (atℤ S.left d ≤ℤ pos 2000000)
  unfolding Above total
  left_range d l = go fs k.above (k.account d l)
    where
      m : rev d < 2 * edges_of s
      m = rev_in (edges_of s) d l

      go : (fs : List (List ℤ)) → Above (edges_of s) (atℤ S.left) fs → atℤ S.left d +ℤ total fs d ≡ capacity_of s d
          → (negsuc 999999 ≤ℤ atℤ S.left d) × (atℤ S.left d ≤ℤ pos 2000000)
      go [] h e =
          let small = capacity_small s k.sheet d l in
          let a = atoms₂ (atℤ S.left d) (capacity_of s d) in (
            at_most (search parts) (omega (arith, from_equal e (search parts), from_at_most small.low (search parts))),
            at_most (search parts) (omega (arith, from_equal e (search parts), from_at_most small.high (search parts))),
          )
      go (xs ∷ fs) h e =
          let a = atoms₄ (atℤ S.left d) (atℤ S.left (rev d)) (capacity_of s d) (capacity_of s (rev d)) in (
            at_most (search parts) (omega (arith, from_at_most (h d l) (search parts))),
            at_most (search parts) (omega (
              arith,
              from_at_most (h (rev d) m) (search parts),
              from_equal (sums_kept d l) (search parts),
              from_at_most (capacity_small s k.sheet d l).high (search parts),
              from_at_most (capacity_small s k.sheet (rev d) m).high (search parts),
            )),
          )

  -- the sheet's drawing with the limits left
  pub drawing_is : shared_drawing S ≡ record { map = sheet_map s; capacity = atℤ S.left; outer = outer_of s }
  drawing_is = λ i. record { map = k.map_is i; capacity = atℤ S.left; outer = k.outer_is i }

  pairs_fit : (e : ℕ) → e < edges_of s → PairFits (atℤ S.left (2 * e)) (atℤ S.left (2 * e + 1))
  pairs_fit e l = (
    (left_range (2 * e) (omega arith)).1,
    (left_range (2 * e + 1) (omega arith)).1,
    subst (λ d. pos 0 ≤ℤ (atℤ S.left (2 * e) +ℤ atℤ S.left d)) (rev_even e)
        (subst (λ z. pos 0 ≤ℤ z) (sym (sums_kept (2 * e) (omega arith))) (bytes_pairs s (sheet_bytes s k.sheet) (2 * e) (omega arith))),
  )

  pub kept_fit : Fit (shared_drawing S)
  kept_fit =
      let n = sheet_counts s k.sheet in
      subst Fit (sym drawing_is) (record {
        bounds = record {
          few_nodes = omega (arith, n.1);
          few_edges = n.3;
          outer_in = sheet_outer s k.sheet;
          range = bytes_range s (sheet_bytes s k.sheet);
          limits = pairs_fit;
        };
        passes = sheet-map s k.sheet;
      })

  -- an offer that is not stale can be let in
  pub kept_lowerable : (p : ℕ) → S.standing p ≡ offered → Lowerable S.edges (atℤ S.left) (atℤ (S.offer p))
  kept_lowerable p e = record {
    few_edges = kept_fit.bounds.few_edges;
    limits = kept_fit.bounds.limits;
    within = subst (λ 𝓜. Within 𝓜 (atℤ S.left) (atℤ (S.offer p))) (sym k.map_is) (k.fresh p e);
  }
