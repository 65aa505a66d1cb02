-- The printed statements of the exam desk.
use mathlib.Core.Path.{◌≡◌, refl, sym, ◌∙◌, ap, ap₂, subst}
use mathlib.Core.Logic.{◌⊎◌, ◌↔◌, inl, inr}
use mathlib.Core.Bool.{true, false, ◌&&◌}
use mathlib.Core.List.{List}
use Prim.Native.Nat.{ℕ, zero, suc, ◌+◌, ◌*◌, ◌-◌, ◌≤◌, ◌<◌}
use native.Mathlib.Omega.{arith}
use native.Mathlib.Nat.{suc-mul}
use lib.Dec.{ltb, ltb→lt, nltb→le}
use lib.ListN.{length}
use lib.Seq.{ext_get_or, get_or-drop}
use lib.IntN.{ℤ}
use Rattle.integers.specs.Sum.{Naturals, sum, sumℕ}
use Rattle.integers.proofs.Sums.{sum_ext}
use Rattle.integers.proofs.Tests.{either, T_of}
use Rattle.integers.proofs.Laws.{le_antisym}
use Rattle.refusals.specs.Order.{NoneOf}
use Rattle.refusals.proofs.Order.{append_none, first_none}
use Rattle.flows.specs.ProvingSet.{member}
use Rattle.arrays.specs.At.{at, atℤ}
use Rattle.records.specs.Sheet.{nodes_of, edges_of}
use Rattle.sheets.specs.Open.{sheet_checks}
use Rattle.questions.specs.Question.{end_checks, value_checks}
use Rattle.analyser.proofs.Statements.{possible_and_impossible}
use Rattle.desk.specs.Paper.{Paper, nodes_in, paper_of, IsLargest, LastSix, Points}
use Rattle.desk.specs.Class.{examine_checks, Examines}
use Rattle.desk.specs.Statements.{ExamDesk}
use Rattle.std.specs.Prelude.{Option, Some, None, Result, Ok, Err}
use Rattle.refusals.specs.declared.Refusal.{Refusal}
use Rattle.desk.specs.declared.ClassFigures.{ClassFigures}
use Rattle.desk.proofs.Judging.{earns_one, earns_at_most}
use Rattle.desk.proofs.Asking.{mark_exactly, class_room}

-- ── points ──
largest_one : (s : List ℕ) (source sink : ℕ) (d e : Option ℤ) → IsLargest s source sink d → IsLargest s source sink e → d ≡ e
largest_one s source sink (Some v) (Some w) h g = ap Some (le_antisym (g.1 v h.0) (h.1 w g.0))
largest_one s source sink (Some v) None h g = absurd (g v h.0.0 h.0.1)
largest_one s source sink None (Some w) h g = absurd (h w g.0.0 g.0.1)
largest_one s source sink None None h g = refl

last_six_one : (s : List ℕ) (source sink : ℕ) (d : Option ℤ) (paper : Paper) (n m : ℕ)
    → LastSix s source sink d paper n → LastSix s source sink d paper m → n ≡ m
last_six_one s source sink (Some v) paper n m h g =
    h.4 ∙ ap₂ ◌+◌ (earns_one 3 _ _ h.2 g.2) (earns_one 3 _ _ h.3 g.3) ∙ sym g.4
last_six_one s source sink None paper n m h g = earns_one 6 n m h g

last_six_few : (s : List ℕ) (source sink : ℕ) (d : Option ℤ) (paper : Paper) (n : ℕ) → LastSix s source sink d paper n → n ≤ 6
last_six_few s source sink (Some v) paper n h = omega (arith, h.4, earns_at_most 3 h.0 h.2, earns_at_most 3 h.1 h.3)
last_six_few s source sink None paper n h = earns_at_most 6 n h

points_one : (s : List ℕ) (source sink : ℕ) (value : ℤ) (d : Option ℤ) (paper : Paper) (n m : ℕ)
    → Points s source sink value d paper n → Points s source sink value d paper m → n ≡ m
points_one s source sink value d paper n m h g =
    h.4 ∙ ap₂ ◌+◌ (earns_one 4 _ _ h.2 g.2) (last_six_one s source sink d paper h.1 g.1 h.3 g.3) ∙ sym g.4

at_most_ten : (s : List ℕ) (source sink : ℕ) (value : ℤ) (d : Option ℤ) (paper : Paper) (n : ℕ) → Points s source sink value d paper n → n ≤ 10
at_most_ten s source sink value d paper n h =
    omega (arith, h.4, earns_at_most 4 h.0 h.2, last_six_few s source sink d paper h.1 h.3)

past_last_node : (nodes : ℕ) (words other : List ℕ) → ((v : ℕ) → v < nodes → member words v ≡ member other v)
    → (v : ℕ) → nodes_in nodes words v ≡ nodes_in nodes other v
unfolding nodes_in
past_last_node nodes words other same v = go (either (ltb v nodes))
  where
    go : (ltb v nodes ≡ true) ⊎ (ltb v nodes ≡ false) → (ltb v nodes && member words v) ≡ (ltb v nodes && member other v)
    go (inl e) = ap (λ b. ltb v nodes && b) (same v (ltb→lt v nodes (T_of e)))
    go (inr e) = rw e refl

-- ── classes ──
sum_below : (n : ℕ) (f : ℕ → ℕ) (k : ℕ) → ((q : ℕ) → q < n → f q ≤ k) → sumℕ n f ≤ n * k
unfolding sum
sum_below zero f k h = omega arith
sum_below (suc n) f k h = omega (arith, suc-mul n k, h n (omega arith), sum_below n f k (λ q l. h q (omega arith)))

sum_above : (n : ℕ) (f : ℕ → ℕ) (k : ℕ) → ((q : ℕ) → q < n → k ≤ f q) → n * k ≤ sumℕ n f
unfolding sum
sum_above zero f k h = omega arith
sum_above (suc n) f k h = omega (arith, suc-mul n k, h n (omega arith), sum_above n f k (λ q l. h q (omega arith)))

few_papers : (s : List ℕ) (source sink : ℕ) (value : ℤ) (n kinds settings sets points : ℕ)
    → NoneOf (examine_checks s source sink value n kinds settings sets points) → n ≤ 1000
unfolding examine_checks
few_papers s source sink value n kinds settings sets points none =
    let question = (append_none (sheet_checks s) _ none).1 in
    let rest = (append_none (end_checks (nodes_of s) source sink) _ question).1 in
    (class_room (nodes_of s) (edges_of s) n kinds settings sets points (append_none (value_checks value) _ rest).1).0

module _ (s : List ℕ) (source sink : ℕ) (value : ℤ) (claims : List ℤ) (kinds : List ℕ) (settings : List ℤ) (sets points points' : List ℕ)
    (m : ClassFigures) (h : Examines s source sink value claims kinds settings sets points points' (Ok (Some m))) where
  each_marked : (d : Option ℤ) → IsLargest s source sink d
      → (q : ℕ) → q < length claims → Points s source sink value d (paper_of s claims kinds settings sets q) (at points' q)
  each_marked d is q l =
      subst (λ e. Points s source sink value e (paper_of s claims kinds settings sets q) (at points' q))
      (largest_one s source sink h.1.0 d h.1.1 is) (h.1.2 q l)

  figures_bounded : (1 ≤ m.number) × (m.number ≤ 1000) × (m.least ≤ m.greatest) × (m.greatest ≤ 10) × (m.number * m.least ≤ m.sum)
      × (m.sum ≤ m.number * m.greatest)
  figures_bounded =
      let f = h.3 in
      let top = f.greatest_reached in
      let ten = at_most_ten s source sink value h.1.0 (paper_of s claims kinds settings sets top.0) (at points' top.0) (h.1.2 top.0 top.1) in
      let low = sum_above (length claims) (at points') m.least f.least_below in
      let high = sum_below (length claims) (at points') m.greatest f.greatest_above in (
        omega (arith, f.number_is, top.1),
        omega (arith, f.number_is, few_papers s source sink value _ _ _ _ _ h.0),
        omega (arith, f.least_below top.0 top.1, top.2),
        omega (arith, ten, top.2),
        subst (λ k. k * m.least ≤ m.sum) (sym f.number_is) (omega (arith, low, f.sum_is)),
        subst (λ k. m.sum ≤ k * m.greatest) (sym f.number_is) (omega (arith, high, f.sum_is)),
      )

-- least and greatest of the same points
least_one : (n : ℕ) (f g : ℕ → ℕ) → ((q : ℕ) → q < n → f q ≡ g q) → (least least' : ℕ) → (q : ℕ) × (q < n) × (f q ≡ least)
    → ((q : ℕ) → q < n → least' ≤ g q) → least' ≤ least
least_one n f g same least least' (q, l, e) below = omega (arith, e, same q l, below q l)

greatest_one : (n : ℕ) (f g : ℕ → ℕ) → ((q : ℕ) → q < n → f q ≡ g q) → (greatest greatest' : ℕ) → (q : ℕ) × (q < n) × (f q ≡ greatest)
    → ((q : ℕ) → q < n → g q ≤ greatest') → greatest ≤ greatest'
greatest_one n f g same greatest greatest' (q, l, e) above = omega (arith, e, same q l, above q l)

class_one : (s : List ℕ) (source sink : ℕ) (value : ℤ) (claims : List ℤ) (kinds : List ℕ) (settings : List ℤ) (sets points points' points'' : List ℕ)
    (m m' : ClassFigures)
    → Examines s source sink value claims kinds settings sets points points' (Ok (Some m))
    → Examines s source sink value claims kinds settings sets points points'' (Ok (Some m'))
    → (m.number ≡ m'.number) × (m.sum ≡ m'.sum) × (m.least ≡ m'.least) × (m.greatest ≡ m'.greatest) × (points' ≡ points'')
class_one s source sink value claims kinds settings sets points points' points'' m m' h g =
    let n = length claims in
    let f = h.3 in
    let e = g.3 in
    let low = least_one n (at points') (at points'') same m.least m'.least f.least_reached e.least_below in
    let low' = least_one n (at points'') (at points') (λ q l. sym (same q l)) m'.least m.least e.least_reached f.least_below in
    let high = greatest_one n (at points') (at points'') same m.greatest m'.greatest f.greatest_reached e.greatest_above in
    let high' = greatest_one n (at points'') (at points') (λ q l. sym (same q l)) m'.greatest m.greatest e.greatest_reached f.greatest_above in (
      f.number_is ∙ sym e.number_is,
      f.sum_is ∙ sum_ext Naturals n (at points') (at points'') same ∙ sym e.sum_is,
      omega arith,
      omega arith,
      ext_get_or 0 points' points'' (h.2.0 ∙ sym g.2.0) (λ i l. everywhere i),
    )
  where
    same : (q : ℕ) → q < length claims → at points' q ≡ at points'' q
    same q l =
        points_one s source sink value h.1.0 (paper_of s claims kinds settings sets q) (at points' q) (at points'' q) (h.1.2 q l)
        (each_marked s source sink value claims kinds settings sets points points'' m' g h.1.0 h.1.1 q l)

    behind : (i : ℕ) → length claims ≤ i → (j : ℕ) → i ≡ length claims + j → at points' i ≡ at points'' i
    behind i l j e =
        ap (at points') e ∙ sym (get_or-drop (length claims) points' j 0)
        ∙ ap (λ xs. at xs j) (h.2.1 ∙ sym g.2.1) ∙ get_or-drop (length claims) points'' j 0 ∙ ap (at points'') (sym e)

    everywhere : (i : ℕ) → at points' i ≡ at points'' i
    everywhere i = go (either (ltb i (length claims)))
      where
        go : (ltb i (length claims) ≡ true) ⊎ (ltb i (length claims) ≡ false) → at points' i ≡ at points'' i
        go (inl t) = same i (ltb→lt i (length claims) (T_of t))
        go (inr t) = let l = nltb→le i (length claims) (rw t tt) in behind i l (i - length claims) (omega arith)

empty_exactly : (s : List ℕ) (source sink : ℕ) (value : ℤ) (claims : List ℤ) (kinds : List ℕ) (settings : List ℤ) (sets points points' : List ℕ)
    (class : Result (Option ClassFigures) Refusal)
    → NoneOf (examine_checks s source sink value (length claims) (length kinds) (length settings) (length sets) (length points))
    → Examines s source sink value claims kinds settings sets points points' class → (class ≡ Ok None) ↔ (length claims ≡ 0)
empty_exactly s source sink value claims kinds settings sets points points' (Ok None) none h = (λ e. h.1, λ e. refl)
empty_exactly s source sink value claims kinds settings sets points points' (Ok (Some m)) none h = (
  λ e. let same : Ok (Some m) ≡ Ok None = e in cc,
  λ e. absurd (omega (arith, h.3.least_reached.1)),
)
empty_exactly s source sink value claims kinds settings sets points points' (Err r) none h = absurd (first_none _ r.number r.place h.0 none)

pub exam_desk : ExamDesk
exam_desk = record {
  largest_one = largest_one;
  points_one = points_one;
  at_most_ten = at_most_ten;
  mark_exactly = λ s source sink value settings answer sheet ends long h.
      mark_exactly s source sink (record { sheet = sheet; ends = ends }) value settings answer long h;
  largest_value = λ s source sink v flows flows' set set' h. (
    (atℤ flows', possible_and_impossible.largest_carries s source sink v flows flows' set set' h),
    possible_and_impossible.nothing_greater s source sink v flows flows' set set' h,
  );
  largest_none = λ s source sink flows flows' set set' h.
      (possible_and_impossible.none_exactly s source sink flows flows' set set' (Ok None) h.0 h).0 refl;
  past_last_node = past_last_node;
  never_refused = λ s source sink value claims kinds settings sets points points' none r h. first_none _ r.number r.place h.0 none;
  each_marked = λ s source sink value claims kinds settings sets points points' m d is h.
      each_marked s source sink value claims kinds settings sets points points' m h d is;
  figures_bounded = figures_bounded;
  empty_exactly = empty_exactly;
  class_one = class_one;
}
