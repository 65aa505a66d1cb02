-- Start: an array that is written whole, one that is read from a sheet, and the session that they make; a sheet decides it.
use Prim.Native.Nat.{ℕ, ◌*◌, ◌≤◌, ◌<◌}
use mathlib.Core.Path.{◌≡◌, refl, sym, ◌∙◌, ap, fun_ext}
use mathlib.Core.List.{List}
use native.Mathlib.Omega.{arith}
use native.Mathlib.Decide.{dec_lt}
use lib.IntN.{pos}
use lib.ListN.{length, get_or, replicate, length-replicate}
use Rattle.std.specs.Prelude.{Result, Ok, Err}
use Rattle.refusals.specs.Order.{NoneOf}
use Rattle.refusals.proofs.Order.{first_none, judged_one}
use Rattle.refusals.specs.declared.Refusal.{Refusal}
use Rattle.arrays.specs.At.{at, atℤ}
use Rattle.arrays.specs.Filled.{tabulate}
use Rattle.arrays.proofs.Tabulate.{length_tabulate, get_d_tabulate, get_d_past, tabulate_get_d, tabulate_ext}
use Rattle.arrays.proofs.FillLoops.{same_everywhere}
use Rattle.records.specs.Sheet.{nodes_of, edges_of, outer_of, tail_of, rotation_of, capacity_of}
use Rattle.records.proofs.Fields.{tail_past, rotation_past, capacity_past}
use Rattle.sheets.specs.Open.{sheet_checks}
use Rattle.sheets.proofs.Accepted.{sheet_counts}
use Rattle.parties.specs.Shared.{Shared, offers_of, shared_of}
use Rattle.parties.specs.Start.{started, emptied, Starts}

-- ── an array ──
module _ {A : Type 0} (z : A) (n : ℕ) where
  -- one value everywhere
  written_whole : replicate n z ≡ tabulate n (λ d. z)
  written_whole = sym (tabulate_get_d n (replicate n z) z (length-replicate n z)) ∙ tabulate_ext n _ _ (λ d l. same_everywhere n z d)

  -- the values of a function
  pub array_is : (to : List A) (f : ℕ → A) → length to ≡ n → ◌≡◌ {A = ℕ → A} (λ d. get_or to d z) f → to ≡ tabulate n f
  array_is to f long e = sym (tabulate_get_d n to z long) ∙ ap (tabulate n) e

  -- they are read from it
  array_reads : (f : ℕ → A) → ((d : ℕ) → n ≤ d → f d ≡ z) → ◌≡◌ {A = ℕ → A} (λ d. get_or (tabulate n f) d z) f
  array_reads f past = fun_ext (λ d. go d (dec_lt d n))
    where
      go : (d : ℕ) → Dec (d < n) → get_or (tabulate n f) d z ≡ f d
      go d (yes l) = get_d_tabulate n d f z l
      go d (no l) = get_d_past n d f z (omega (arith, l)) ∙ sym (past d (omega (arith, l)))

  -- all zeros
  pub zeros_read : (to : List A) → to ≡ tabulate n (λ d. z) → (length to ≡ n) × ((d : ℕ) → get_or to d z ≡ z)
  zeros_read to e =
      (ap length e ∙ length_tabulate n (λ d. z), λ d. ap (λ l. get_or l d z) e ∙ ap (λ (f : ℕ → A). f d) (array_reads (λ k. z) (λ k l. refl)))

-- ── the arrays of a sheet that is accepted ──
module _ (s : List ℕ) (h : NoneOf (sheet_checks s)) where
  past_darts : (d : ℕ) → 1024 ≤ d → 2 * edges_of s ≤ d
  past_darts d l = omega (arith, (sheet_counts s h).3)

  pub tails_read : at (tabulate 1024 (tail_of s)) ≡ tail_of s
  tails_read = array_reads 0 1024 (tail_of s) (λ d l. tail_past s d (past_darts d l))

  pub rotations_read : at (tabulate 1024 (rotation_of s)) ≡ rotation_of s
  rotations_read = array_reads 0 1024 (rotation_of s) (λ d l. rotation_past s d (past_darts d l))

  pub limits_read : atℤ (tabulate 1024 (capacity_of s)) ≡ capacity_of s
  limits_read = array_reads (pos 0) 1024 (capacity_of s) (λ d l. capacity_past s d (past_darts d l))

-- ── the session ──
-- all zeros
pub after_erase : shared_of 0 0 0 (replicate 1024 0) (replicate 1024 0) (replicate 1024 (pos 0)) (replicate 1024 (pos 0)) (replicate 2 0)
    (replicate 512 (pos 0)) (replicate 512 (pos 0)) ≡ emptied
after_erase = λ i. record {
  nodes = 0;
  edges = 0;
  outer = 0;
  tails = written_whole 0 1024 i;
  rotations = written_whole 0 1024 i;
  limits = written_whole (pos 0) 1024 i;
  left = written_whole (pos 0) 1024 i;
  standing = fun_ext (same_everywhere 2 0) i;
  offer = offers_of (written_whole (pos 0) 512 i) (written_whole (pos 0) 512 i);
}

-- all zeros, and then what the sheet says
pub after_start : (s : List ℕ) (E S : Shared) → E ≡ emptied → S.nodes ≡ nodes_of s → S.edges ≡ edges_of s → S.outer ≡ outer_of s
    → S.tails ≡ tabulate 1024 (tail_of s) → S.rotations ≡ tabulate 1024 (rotation_of s) → S.limits ≡ tabulate 1024 (capacity_of s)
    → S.left ≡ tabulate 1024 (capacity_of s) → S.standing ≡ E.standing → S.offer ≡ E.offer → S ≡ started s
after_start s E S erased n e o t r c l st off = λ i. record {
  nodes = n i;
  edges = e i;
  outer = o i;
  tails = t i;
  rotations = r i;
  limits = c i;
  left = l i;
  standing = (st ∙ ap (λ (T : Shared). T.standing) erased) i;
  offer = (off ∙ ap (λ (T : Shared). T.offer) erased) i;
}

-- ── a sheet decides the session that a start leaves, and the verdict ──
pub one_start : (s : List ℕ) (S T : Shared) (v w : Result Unit Refusal) → Starts s S v → Starts s T w → (S ≡ T) × (v ≡ w)
one_start s S T (Ok done) (Ok again) a b = (a.1 ∙ sym b.1, refl)
one_start s S T (Ok done) (Err r) a b = absurd (first_none (sheet_checks s) r.number r.place b.0 a.0)
one_start s S T (Err r) (Ok done) a b = absurd (first_none (sheet_checks s) r.number r.place a.0 b.0)
one_start s S T (Err r) (Err q) a b = (a.1 ∙ sym b.1, judged_one (sheet_checks s) (Err r) (Err q) a.0 b.0)
