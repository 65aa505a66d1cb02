-- An ascent under way: the faces that it has gone through have links down.
use mathlib.Core.Path.{◌≡◌, refl, sym, ◌∙◌, ap, subst}
use mathlib.Core.Logic.{◌⊎◌, inl, inr}
use mathlib.Core.List.{List}
use Prim.Native.Nat.{ℕ, ◌+◌, ◌-◌, ◌≤◌, ◌<◌}
use native.Mathlib.Omega.{arith}
use native.Mathlib.Decide.{ℕ_discrete}
use native.Mathlib.Numerals.{add-one}
use lib.ListN.{length, set, length-set}
use Rattle.maps.specs.Orbit.{iter}
use Rattle.maps.proofs.Orbits.{iter_zero, iter_suc}
use Rattle.arrays.specs.At.{at}
use Rattle.search.specs.Parents.{up}
use Rattle.search.specs.Straightening.{marked}
use Rattle.search.specs.inner.Ascending.{Matched, Ascended}
use Rattle.search.proofs.Change.{Changed, stored}
use Rattle.search.proofs.Heights.{fresh, fresh_less, fresh_some, fresh_few}
use Rattle.search.proofs.Marking.{marked_cases, marked_new}

module _ (right : ℕ → ℕ) (darts faces : ℕ) (parents : List ℕ) (f : ℕ) where
  abbrev g : ℕ → ℕ
  g = up right (at parents)

  pub record Rising (links₀ links : List ℕ) (y last count : ℕ) : Type 0 where
    pub y_is : y ≡ iter g count f
    pub last_is : last ≡ iter g (count - 1) f
    pub inside : (k : ℕ) → k ≤ count → iter g k f < faces
    pub size : length links ≡ 1024
    pub onward : (k : ℕ) → k < count → at parents (iter g k f) < darts
    pub unmet : (k : ℕ) → k < count → at links₀ (iter g k f) ≡ 1024
    pub apart : (i j : ℕ) → i < j → j < count → iter g i f ≡ iter g j f → ⊥
    pub linked : (k : ℕ) → k < count → at links (iter g k f) ≡ iter g (k - 1) f
    pub others : (x : ℕ) → ((k : ℕ) → k < count → iter g k f ≡ x → ⊥) → at links x ≡ at links₀ x
    pub left : fresh faces links + count ≡ fresh faces links₀

  pub rising_first : (links : List ℕ) → length links ≡ 1024 → f < faces → Rising links links f f 0
  rising_first links s l = record {
    y_is = sym (iter_zero g f);
    last_is = sym (iter_zero g f);
    inside = λ k m. let e : k ≡ 0 = omega arith in rw (e, iter_zero g f) l;
    size = s;
    onward = λ k m. absurd (omega arith);
    unmet = λ k m. absurd (omega arith);
    apart = λ i j m n. absurd (omega arith);
    linked = λ k m. absurd (omega arith);
    others = λ x n. refl;
    left = omega arith;
  }

  module _ {links₀ links : List ℕ} {y last count : ℕ} (few : faces ≤ 1024) (f-in : f < faces) (r : Rising links₀ links y last count) where
    pub y_in : y < faces
    y_in = rw r.y_is (r.inside count (omega arith))

    pub last_in : last < faces
    last_in = rw r.last_is (r.inside (count - 1) (omega arith))

    -- where the link is not there yet a face is left, so there is room
    pub rising_room : at links y ≡ 1024 → count < 1024
    rising_room e = omega (arith, r.left, fresh_some faces links y y_in e, fresh_few faces links₀)

    fewer : at links y ≡ 1024 → fresh faces (set links y last) + 1 ≡ fresh faces links
    fewer e =
        fresh_less faces links (set links y last) y last (stored links y last 0 (omega (arith, y_in, r.size))) y_in e (omega (arith, last_in))

    pub rising_less : at links y ≡ 1024 → fresh faces (set links y last) < fresh faces links
    rising_less e = omega (arith, fewer e)

    -- a face that was not met yet is none of those that have links
    new : at links y ≡ 1024 → (k : ℕ) → k < count → iter g k f ≡ y → ⊥
    new e k l q = omega (arith, sym (ap (at links) q) ∙ r.linked k l, e, r.inside (k - 1) (omega arith))

    -- one face more
    pub rising_more : (p z : ℕ) → p ≡ at parents y → p < darts → at links y ≡ 1024 → z ≡ right p → z < faces
        → Rising links₀ (set links y last) z y (count + 1)
    rising_more p z p-is p_in e z-is z-in = record {
      y_is = z_at;
      last_is = r.y_is ∙ ap (λ m. iter g m f) back;
      inside = λ k l. inside' k l (ℕ_discrete k (count + 1));
      size = simp length-set r.size;
      onward = λ k l. onward' k l (ℕ_discrete k count);
      unmet = λ k l. unmet' k l (ℕ_discrete k count);
      apart = λ i j l m. apart' i j l m (ℕ_discrete j count);
      linked = λ k l. linked' k l (ℕ_discrete k count);
      others = λ x n. c.off x (λ q. n count (omega arith) (sym r.y_is ∙ sym q)) ∙ r.others x (λ k l. n k (omega arith));
      left = omega (arith, r.left, fewer e);
    }
      where
        back : count ≡ count + 1 - 1
        back = omega arith

        z_at : z ≡ iter g (count + 1) f
        z_at = z-is ∙ ap right (p-is ∙ ap (at parents) r.y_is) ∙ sym (iter_suc g count f) ∙ ap (λ m. iter g m f) (sym (add-one count))

        c : Changed (at links) (at (set links y last)) y last
        c = stored links y last 0 (omega (arith, y_in, r.size))

        inside' : (k : ℕ) → k ≤ count + 1 → Dec (k ≡ count + 1) → iter g k f < faces
        inside' k l (yes q) = rw (q, ← z_at) z-in
        inside' k l (no n) = r.inside k (omega (arith, n))

        onward' : (k : ℕ) → k < count + 1 → Dec (k ≡ count) → at parents (iter g k f) < darts
        onward' k l (yes q) = rw q (subst (λ x. at parents x < darts) r.y_is (rw (← p-is) p_in))
        onward' k l (no n) = r.onward k (omega (arith, n))

        unmet' : (k : ℕ) → k < count + 1 → Dec (k ≡ count) → at links₀ (iter g k f) ≡ 1024
        unmet' k l (yes q) = rw (q, ← r.y_is) (sym (r.others y (new e)) ∙ e)
        unmet' k l (no n) = r.unmet k (omega (arith, n))

        apart' : (i j : ℕ) → i < j → j < count + 1 → Dec (j ≡ count) → iter g i f ≡ iter g j f → ⊥
        apart' i j l m (yes q) s = new e i (omega (arith, q)) (s ∙ ap (λ k. iter g k f) q ∙ sym r.y_is)
        apart' i j l m (no n) s = r.apart i j l (omega (arith, n)) s

        linked' : (k : ℕ) → k < count + 1 → Dec (k ≡ count) → at (set links y last) (iter g k f) ≡ iter g (k - 1) f
        linked' k l (yes q) = rw q (c.at (iter g count f) (sym r.y_is) ∙ r.last_is)
        linked' k l (no n) = let m : k < count = omega (arith, n) in c.off (iter g k f) (new e k m) ∙ r.linked k m

    -- it stops
    pub rising_stops : (at parents y < darts → at links y ≡ 1024 → ⊥) → (marks : List ℕ) → Matched marks links₀
        → Ascended g darts faces parents f marks links₀ links count last y
    rising_stops stop marks t = record {
      ascent = record {
        onward = λ k l. (r.onward k l, mark_at k l (marked_cases g f marks k (iter g k f)));
        stops = λ l e. stop (subst (λ x. at parents x < darts) (sym r.y_is) l) (no_link e (marked_cases g f marks count (iter g count f)));
      };
      size_links = r.size;
      unmet = r.unmet;
      linked = r.linked;
      others = r.others;
      last_is = r.last_is;
      top_is = r.y_is;
      top_in = y_in;
    }
      where
        fresh_mark : (x : ℕ) → x < faces → at links₀ x ≡ 1024 → at marks x ≡ 1024
        fresh_mark x l e = by (ℕ_discrete (at marks x) 1024)
          where
            by : Dec (at marks x ≡ 1024) → at marks x ≡ 1024
            by (yes q) = q
            by (no n) = absurd (omega (arith, t.met x (omega arith) n, e))

        mark_at : (k : ℕ) → k < count → (at (marked g f k marks) (iter g k f) ≡ at marks (iter g k f)) ⊎ ((j : ℕ) × (j < k) × (iter g j f ≡ iter g k f))
            → at (marked g f k marks) (iter g k f) ≡ 1024
        mark_at k l (inl q) = q ∙ fresh_mark (iter g k f) (r.inside k (omega arith)) (r.unmet k l)
        mark_at k l (inr q) = absurd (r.apart q.0 k q.1 l q.2)

        -- who was met has the mark f
        not_met : at (marked g f count marks) (iter g count f) ≡ 1024 → (j : ℕ) → j < count → iter g j f ≡ iter g count f → ⊥
        not_met e j l q =
            omega (
              arith,
              e,
              f-in,
              marked_new g f marks t.size count j l (omega (arith, r.inside j (omega arith))),
              ap (at (marked g f count marks)) q,
            )

        no_link : at (marked g f count marks) (iter g count f) ≡ 1024
            → (at (marked g f count marks) (iter g count f) ≡ at marks (iter g count f)) ⊎ ((j : ℕ) × (j < count) × (iter g j f ≡ iter g count f))
            → at links y ≡ 1024
        no_link e (inl q) =
            r.others y (λ j l s. not_met e j l (s ∙ r.y_is))
            ∙ t.unmet y (omega (arith, y_in)) (ap (at marks) r.y_is ∙ sym q ∙ e)
        no_link e (inr q) = absurd (not_met e q.0 q.1 q.2)
