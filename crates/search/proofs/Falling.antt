-- On the way down, as the code comes by it: what comes of the rest comes of the whole.
use mathlib.Core.Path.{◌≡◌, refl, sym, ◌∙◌, ap, subst}
use mathlib.Core.List.{List}
use Prim.Native.Nat.{ℕ, suc, ◌-◌, ◌*◌, ◌≤◌, ◌<◌}
use native.Mathlib.Omega.{arith}
use native.Mathlib.Decide.{ℕ_discrete}
use lib.ListN.{set, length-set}
use lib.IntN.{ℤ}
use lib.Signed.{mag}
use Rattle.maps.specs.Orbit.{iter}
use Rattle.arrays.specs.At.{at, atℤ}
use Rattle.arrays.specs.Maps.{right_of}
use Rattle.search.specs.Dual.{dual_of, WellFormed, longest}
use Rattle.search.specs.Level.{HasLevel}
use Rattle.search.specs.Configuration.{Tables}
use Rattle.search.specs.Straightening.{Follows, Descends, done, down, upward_of}
use Rattle.search.specs.inner.Progress.{Descending, Lowering}
use Rattle.search.specs.inner.Ascending.{Unlinked}
use Rattle.search.proofs.Change.{Changed, stored}
use Rattle.search.proofs.Descent.{y_in, p_in, w_near, follow_on}

pub record Falling (lefts : List ℕ) (lengths : List ℤ) (darts faces : ℕ) (start : Tables) (f count : ℕ) (links₀ : List ℕ) (k y : ℕ) (links : List ℕ)
    (now : Tables) : Type 0 where
  pub roots : List ℕ
  pub sound : WellFormed (dual_of lefts lengths darts faces roots)
  pub first : ℕ
  pub bound : ℕ
  pub wide : 1024 ≤ bound
  pub few : bound < 1600000
  pub deep : ℕ
  pub rest : ℕ
  pub upto : k ≤ count
  pub descending : Descending (dual_of lefts lengths darts faces roots) now first bound (upward_of lefts start) f k deep rest
  pub apart : (i j : ℕ) → i < j → j < count → iter (upward_of lefts start) i f ≡ iter (upward_of lefts start) j f → ⊥
  pub linked : (j : ℕ) → j < count → at links₀ (iter (upward_of lefts start) j f) ≡ iter (upward_of lefts start) (j - 1) f
  pub y_is : y ≡ iter (upward_of lefts start) (k - 1) f
  pub unlinked : Unlinked (upward_of lefts start) f k count links₀ links
  pub back : (u : Tables) → Descends lefts lengths (upward_of lefts start) f k now u → Descends lefts lengths (upward_of lefts start) f count start u

module _ {lefts : List ℕ} {lengths : List ℤ} {darts faces : ℕ} {start : Tables} {f count : ℕ} {links₀ : List ℕ} where
  pub falling_first : {y : ℕ} → Lowering (dual_of lefts lengths darts faces) start f count y links₀
      → Falling lefts lengths darts faces start f count links₀ count y links₀ start
  falling_first h = record {
    roots = h.roots;
    sound = h.sound;
    first = h.first;
    bound = h.bound;
    wide = h.wide;
    few = h.few;
    deep = h.deep;
    rest = h.rest;
    upto = omega arith;
    descending = h.descending;
    apart = h.descending.apart;
    linked = h.linked;
    y_is = h.from_is;
    unlinked = record { size_links = h.size_links; gone = λ j l m. absurd (omega arith); still = λ j l. refl; others = λ x n. refl };
    back = λ u q. q;
  }

  pub falling_last : {now : Tables} {k y : ℕ} {links : List ℕ} → Falling lefts lengths darts faces start f count links₀ k y links now → k ≡ 0
      → Descends lefts lengths (upward_of lefts start) f count start now × Unlinked (upward_of lefts start) f 0 count links₀ links
  falling_last {now} {k} {y} {links} h e = (
    h.back now (subst (λ k. Descends lefts lengths (upward_of lefts start) f k now now) (sym e) done),
    subst (λ k. Unlinked (upward_of lefts start) f k count links₀ links) e h.unlinked,
  )

  module _ {now : Tables} {k y : ℕ} {links : List ℕ} (h : Falling lefts lengths darts faces start f count links₀ k y links now) (some : 0 < k) where
    abbrev g : ℕ → ℕ
    g = upward_of lefts start

    abbrev Below : ℕ → Type 0
    Below m = Descending (dual_of lefts lengths darts faces h.roots) now h.first h.bound g f m h.deep h.rest

    below : Below (suc (k - 1))
    below = let e : k ≡ suc (k - 1) = omega arith in subst Below e h.descending

    -- what is asked before y follows its parent
    pub face_in : y < faces
    face_in = rw h.y_is (y_in lefts lengths darts faces h.roots h.sound h.wide h.few below)

    pub dart_in : at now.parents y < darts
    dart_in = rw h.y_is (p_in lefts lengths darts faces h.roots h.sound h.wide h.few below)

    pub left_in : at lefts (at now.parents y) < faces
    left_in = h.sound.left_in (at now.parents y) dart_in

    pub right_in : right_of lefts (at now.parents y) < faces
    right_in = h.sound.right_in (at now.parents y) dart_in

    pub right_near : HasLevel (atℤ now.potentials) (right_of lefts (at now.parents y))
        → mag (atℤ now.potentials (right_of lefts (at now.parents y))) ≤ 1024 * longest
    right_near =
        rw h.y_is
        (λ has.
        omega (arith, w_near lefts lengths darts faces h.roots h.sound h.wide h.few below has, h.descending.room, h.sound.few_faces))

    pub length_near : mag (atℤ lengths (at now.parents y)) < longest
    length_near = h.sound.short (at now.parents y) dart_in

    pub falling_on : {u : Tables} (z : ℕ) → z ≡ at links y → Follows lefts lengths y now u
        → Falling lefts lengths darts faces start f count links₀ (k - 1) z (set links y 1025) u
    falling_on {u} z z-is w = record {
      roots = h.roots;
      sound = h.sound;
      first = h.first;
      bound = h.bound;
      wide = h.wide;
      few = h.few;
      deep = suc h.deep;
      rest = h.rest;
      upto = omega (arith, h.upto);
      descending = follow_on lefts lengths darts faces h.roots h.sound h.wide h.few below w';
      apart = h.apart;
      linked = h.linked;
      y_is = z-is ∙ ap (at links) h.y_is ∙ h.unlinked.still (k - 1) (omega arith) ∙ h.linked (k - 1) last_in;
      unlinked = record {
        size_links = simp length-set h.unlinked.size_links;
        gone = λ j l m. gone' j l m (ℕ_discrete j (k - 1));
        still = λ j l. c.off (iter g j f) (λ q. h.apart j (k - 1) l last_in (q ∙ h.y_is)) ∙ h.unlinked.still j (omega arith);
        others = λ x n. c.off x (λ q. n (k - 1) last_in (sym h.y_is ∙ sym q)) ∙ h.unlinked.others x n;
      };
      back = λ v q. h.back v (whole v (down w' q));
    }
      where
        last_in : k - 1 < count
        last_in = omega (arith, h.upto)

        c : Changed (at links) (at (set links y 1025)) y 1025
        c = stored links y 1025 0 (omega (arith, face_in, h.sound.few_faces, h.unlinked.size_links))

        gone' : (j : ℕ) → k - 1 ≤ j → j < count → Dec (j ≡ k - 1) → at (set links y 1025) (iter g j f) ≡ 1025
        gone' j l m (yes q) = c.at (iter g j f) (ap (λ i. iter g i f) q ∙ sym h.y_is)
        gone' j l m (no n) =
            c.off (iter g j f) (λ q. h.apart (k - 1) j (omega (arith, n)) m (sym (q ∙ h.y_is))) ∙ h.unlinked.gone j (omega (arith, n)) m

        w' : Follows lefts lengths (iter g (k - 1) f) now u
        w' = subst (λ x. Follows lefts lengths x now u) h.y_is w

        whole : (v : Tables) → Descends lefts lengths g f (suc (k - 1)) now v → Descends lefts lengths g f k now v
        whole v q = let e : suc (k - 1) ≡ k = omega arith in subst (λ m. Descends lefts lengths g f m now v) e q
