-- The proposed parents are taken or left, face by face.
use mathlib.Core.Path.{◌≡◌, refl, sym, ◌∙◌, ap}
use mathlib.Core.Bool.{Bool, true, false, cond, ◌&&◌}
use mathlib.Core.List.{List}
use Prim.Native.Nat.{ℕ, ◌+◌, ◌≤◌, ◌<◌}
use native.Mathlib.Omega.{arith}
use native.Mathlib.Decide.{ℕ_discrete}
use lib.Dec.{eqb}
use lib.ListN.{length, set, length-set}
use Rattle.arrays.specs.At.{at}
use Rattle.integers.specs.Sum.{Naturals, bit}
use Rattle.integers.proofs.Sums.{sum_more, sum_nil}
use Rattle.integers.proofs.Tests.{ltb_false}
use Rattle.search.specs.Moves.{sensible, parent_from, taken_from}
use Rattle.search.specs.inner.Taking.{Taking}
use Rattle.search.proofs.Change.{Changed, stored}

module _ {lefts : List ℕ} {darts : ℕ} {proposal : List ℕ} {f : ℕ} {parents : List ℕ} {number : ℕ}
    (t : Taking lefts darts proposal f parents number) (small : f < 1024) (p : ℕ) (p-is : p ≡ at parents f) where
  test_is : sensible lefts darts f p ≡ sensible lefts darts f (at proposal f)
  test_is = ap (sensible lefts darts f) (p-is ∙ t.rest f (omega arith))

  one_more : (b : Bool) → b ≡ sensible lefts darts f p → taken_from lefts darts (f + 1) proposal ≡ number + bit b
  one_more b e = omega (arith, t.counted, sum_more Naturals f (λ x. bit (sensible lefts darts x (at proposal x))), ap bit (e ∙ test_is))

  pub taking_keep : (b : Bool) → b ≡ sensible lefts darts f p → b ≡ true → (parents' : List ℕ) → parents' ≡ parents
      → (number' : ℕ) → number' ≡ number + 1 → Taking lefts darts proposal (f + 1) parents' number'
  taking_keep b b-is yes' parents' e number' n = rw e (record {
    size = t.size;
    taken = λ x l. by x l (ℕ_discrete x f);
    rest = λ x l. t.rest x (omega arith);
    counted = omega (arith, one_more b b-is, ap bit yes');
  })
    where
      by : (x : ℕ) → x < f + 1 → Dec (x ≡ f) → at parents x ≡ parent_from lefts darts proposal x
      by x l (yes q) =
          ap (at parents) q ∙ t.rest f (omega arith) ∙ ap (λ c. cond c (at proposal f) 1024) (sym yes' ∙ b-is ∙ test_is)
          ∙ ap (parent_from lefts darts proposal) (sym q)
      by x l (no m) = t.taken x (omega arith)

  pub taking_drop : (b : Bool) → b ≡ sensible lefts darts f p → b ≡ false → (parents' : List ℕ) → parents' ≡ set parents f 1024
      → (number' : ℕ) → number' ≡ number → Taking lefts darts proposal (f + 1) parents' number'
  taking_drop b b-is no' parents' e number' n = rw e (record {
    size = simp length-set t.size;
    taken = λ x l. by x l (ℕ_discrete x f);
    rest = λ x l. c.off x (λ q. omega arith) ∙ t.rest x (omega arith);
    counted = omega (arith, one_more b b-is, ap bit no');
  })
    where
      c : Changed (at parents) (at (set parents f 1024)) f 1024
      c = stored parents f 1024 0 (omega (arith, t.size))

      by : (x : ℕ) → x < f + 1 → Dec (x ≡ f) → at (set parents f 1024) x ≡ parent_from lefts darts proposal x
      by x l (yes q) =
          c.at x q ∙ ap (λ c. cond c (at proposal f) 1024) (sym no' ∙ b-is ∙ test_is) ∙ ap (parent_from lefts darts proposal) (sym q)
      by x l (no m) = c.off x m ∙ t.taken x (omega arith)

-- where 1024 stands for every face, all parents are taken as they stand, and none of them counts
module _ (lefts : List ℕ) {darts faces : ℕ} (proposal : List ℕ) (few : darts ≤ 1024) (none : (f : ℕ) → f < faces → at proposal f ≡ 1024) where
  unfit : (f : ℕ) → f < faces → sensible lefts darts f (at proposal f) ≡ false
  unfit f l = ap (λ b. b && eqb (at lefts (at proposal f)) f) (ltb_false (at proposal f) darts (omega (arith, none f l)))

  pub taking_none : length proposal ≡ 1024 → Taking lefts darts proposal faces proposal 0
  taking_none size = record {
    size = size;
    taken = λ x l. none x l ∙ ap (λ b. cond b (at proposal x) 1024) (sym (unfit x l));
    rest = λ x l. refl;
    counted = sym (sum_nil Naturals faces (λ f. bit (sensible lefts darts f (at proposal f))) (λ f l. ap bit (unfit f l)));
  }
