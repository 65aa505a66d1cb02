-- Loops that fill: an array of 1,024 from its start, zero further on; and a slice from its start, the rest as it was.
use mathlib.Core.Path.{◌≡◌, refl, sym, ◌∙◌, ap, ap₂, fun_ext}
use mathlib.Core.Bool.{cond}
use mathlib.Core.List.{List, [], ◌∷◌, ◌++◌, append_assoc}
use Prim.Native.Nat.{ℕ, suc, ◌+◌, ◌-◌, ◌≤◌, ◌<◌}
use native.Mathlib.Omega.{arith}
use native.Mathlib.Decide.{ℕ_discrete, dec_lt}
use native.Mathlib.Numerals.{add-one}
use lib.Dec.{ltb}
use lib.ListN.{length, get_or, set, drop, length-set}
use lib.Seq.{get_or-set_same, get_or-set_other, get_or-append-add, get_or-drop, drop-cons, set_at}
use Rattle.integers.proofs.Tests.{ltb_true, ltb_false}
use Rattle.arrays.specs.Filled.{tabulate, filled}
use Rattle.arrays.proofs.Tabulate.{length_tabulate, get_d_tabulate, tabulate_ext}

-- ── an array: f below d, and z further on ──
pub record Filling {A : Type 0} (z : A) (f : ℕ → A) (d : ℕ) (to : List A) : Type 0 where
  pub long : length to ≡ 1024
  pub low : (k : ℕ) → k < d → get_or to k z ≡ f k
  pub high : (k : ℕ) → d ≤ k → get_or to k z ≡ z

module _ {A : Type 0} {z : A} {f : ℕ → A} where
  pub filling_start : (to : List A) → length to ≡ 1024 → ((k : ℕ) → get_or to k z ≡ z) → Filling z f 0 to
  filling_start to l h = record { long = l; low = λ k m. absurd (omega arith); high = λ k m. h k }

  pub filling_step : {d : ℕ} {to : List A} → Filling z f d to → (v : A) → d < 1024 → v ≡ f d → Filling z f (d + 1) (set to d v)
  filling_step {d} {to} φ v l e = record {
    long = length-set to d v ∙ φ.long;
    low = λ k m. at k m (ℕ_discrete k d);
    high = λ k m. get_or-set_other to d k v z (λ p. omega arith) ∙ φ.high k (omega arith);
  }
    where
      at : (k : ℕ) → k < d + 1 → Dec (k ≡ d) → get_or (set to d v) k z ≡ f k
      at k m (yes p) = rw p (get_or-set_same to d v z (omega (arith, φ.long)) ∙ e)
      at k m (no p) = get_or-set_other to d k v z p ∙ φ.low k (omega (arith, p))

  pub filling_end : {n : ℕ} {to : List A} → Filling z f n to → (d : ℕ) → get_or to d z ≡ cond (ltb d n) (f d) z
  filling_end {n} {to} φ d = go (dec_lt d n)
    where
      go : Dec (d < n) → get_or to d z ≡ cond (ltb d n) (f d) z
      go (yes l) = φ.low d l ∙ (rw (ltb_true d n l))
      go (no l) = φ.high d (omega (arith, l)) ∙ (rw (ltb_false d n (omega (arith, l))))

-- ── a slice: f in its first d places, and further on what was there ──
pub copy_start : {A : Type 0} (f : ℕ → A) (old : List A) → old ≡ tabulate 0 f ++ drop 0 old
unfolding tabulate
copy_start f old = refl

pub copy_step : {A : Type 0} (f : ℕ → A) (d : ℕ) (old now : List A) (v : A) → now ≡ tabulate d f ++ drop d old → d < length old → v ≡ f d
    → set now d v ≡ tabulate (d + 1) f ++ drop (d + 1) old
unfolding tabulate
copy_step f d old now v e l h =
    ap (λ x. set x d v) (e ∙ ap (λ x. tabulate d f ++ x) (drop-cons old d v l))
    ∙ set_at (tabulate d f) (get_or old d v) (drop (suc d) old) v d (length_tabulate d f)
    ∙ ap (λ x. tabulate d f ++ (x ∷ drop (suc d) old)) h
    ∙ sym (append_assoc (tabulate d f) (f d ∷ []) (drop (suc d) old))
    ∙ ap (λ k. tabulate k f ++ drop k old) (sym (add-one d))

pub filled_length : {A : Type 0} (n : ℕ) (f : ℕ → A) (old new : List A) → new ≡ filled n f old → n ≤ length old → length new ≡ length old
filled_length n f old new h l =
    ap length h ∙ lib.ListN.length-append (tabulate n f) (drop n old) ∙ ap₂ ◌+◌ (length_tabulate n f) (lib.ListN.length-drop n old) ∙ omega arith

-- a new array holds one value everywhere
pub same_everywhere : {A : Type 0} (n : ℕ) (a : A) (k : ℕ) → get_or (lib.ListN.replicate n a) k a ≡ a
same_everywhere n a k = go (dec_lt k n)
  where
    go : Dec (k < n) → get_or (lib.ListN.replicate n a) k a ≡ a
    go (yes l) = lib.ListN.get_or-replicate n k a a l
    go (no l) = lib.ListN.get_or-eq_default (lib.ListN.replicate n a) a {n = k} (rw (lib.ListN.length-replicate n a) (omega (arith, l)))

-- ── a filled slice as a function of the index ──
pub filled_at : {A : Type 0} (n : ℕ) (f : ℕ → A) (old : List A) (z : A) → n ≤ length old
    → (d : ℕ) → get_or (filled n f old) d z ≡ cond (ltb d n) (f d) (get_or old d z)
filled_at n f old z room d = go (dec_lt d n)
  where
    go : Dec (d < n) → get_or (filled n f old) d z ≡ cond (ltb d n) (f d) (get_or old d z)
    go (yes l) =
        lib.ListN.get_or-append (tabulate n f) (drop n old) z d (omega (arith, length_tabulate n f)) ∙ get_d_tabulate n d f z l ∙ (rw (ltb_true d n l))
    go (no l) =
        let k : d ≡ length (tabulate n f) + (d - n) = omega (arith, l, length_tabulate n f) in
        ap (λ i. get_or (filled n f old) i z) k
        ∙ get_or-append-add (tabulate n f) (drop n old) (d - n) z
        ∙ get_or-drop n old (d - n) z
        ∙ ap (λ i. get_or old i z) (let q : n + (d - n) ≡ d = omega (arith, l) in q)
        ∙ (rw (ltb_false d n (omega (arith, l))))

-- zeros filled in front are the function below n, and zero further on
pub filled_zeros : {A : Type 0} (z : A) (n m : ℕ) (f : ℕ → A) (old new : List A) → n ≤ length old → n ≡ m → ((d : ℕ) → get_or old d z ≡ z) → new ≡ filled n f
    old
    → ◌≡◌ {A = ℕ → A} (λ d. get_or new d z) (λ d. cond (ltb d m) (f d) z)
filled_zeros z n m f old new room e zeros h =
    fun_ext (λ d. ap (λ l. get_or l d z) h ∙ filled_at n f old z room d ∙ ap (λ k. cond (ltb d k) (f d) (get_or old d z)) e ∙ ap (cond (ltb d m) (f d))
    (zeros d))

-- one function for another, where they agree below the count
pub filled_below : {A : Type 0} (n m : ℕ) (f g : ℕ → A) (old new : List A) → new ≡ filled n f old → n ≡ m → ((d : ℕ) → d < m → f d ≡ g d) → new ≡ filled m g old
filled_below n m f g old new h e same = h ∙ ap (λ k. filled k f old) e ∙ ap (λ l. l ++ drop m old) (tabulate_ext m f g same)

-- what stands in front
pub filled_front : {A : Type 0} (z : A) (n : ℕ) (f : ℕ → A) (old new : List A) → new ≡ filled n f old → (i : ℕ) → i < n → get_or new i z ≡ f i
filled_front z n f old new h i l =
    ap (λ x. get_or x i z) h ∙ lib.ListN.get_or-append (tabulate n f) (drop n old) z i (omega (arith, length_tabulate n f)) ∙ get_d_tabulate n i f z l
