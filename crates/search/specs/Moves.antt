-- What the parts of the search do: it begins, and it crosses a dart.
use Rattle.std.specs.Prelude.{◌≡◌, Bool, true, false, cond, ◌&&◌, List, ℕ, ◌≤◌, ◌<◌, eqb, ltb, length, set, ℤ, pos, ◌+ℤ◌, ◌≤ℤ◌, ◌<ℤ◌}
use Rattle.integers.specs.Sum.{count}
use Rattle.arrays.specs.At.{at, atℤ}
use Rattle.search.specs.Level.{far}

-- what is taken of a proposed parent p of the face f: a dart with f on its left, and nothing else; 1024 is no dart
abbrev pub sensible : (lefts : List ℕ) (darts f p : ℕ) → Bool
sensible lefts darts f p = ltb p darts && eqb (at lefts p) f

-- how many faces have a parent of the proposal
abbrev pub taken_from : (lefts : List ℕ) (darts faces : ℕ) (proposal : List ℕ) → ℕ
taken_from lefts darts faces proposal = count faces (λ f. sensible lefts darts f (at proposal f))

abbrev pub parent_from : (lefts : List ℕ) (darts : ℕ) (proposal : List ℕ) (f : ℕ) → ℕ
parent_from lefts darts proposal f = cond (sensible lefts darts f (at proposal f)) (at proposal f) 1024

-- at first the faces at the first places of the queue, the roots, are at 0 and wait, and have no parent; no other face has a level, and each has the parent
-- that is proposed for it
pub record Begun (lefts : List ℕ) (darts faces : ℕ) (proposal : List ℕ) (potentials : List ℤ) (parents waiting queue : List ℕ) (roots : ℕ) : Type 0 where
  pub size_potentials : length potentials ≡ 1024
  pub size_parents : length parents ≡ 1024
  pub size_waiting : length waiting ≡ 1024
  pub zero : (m : ℕ) → m < roots → atℤ potentials (at queue m) ≡ pos 0
  pub others : (f : ℕ) → f < 1024 → ((m : ℕ) → m < roots → at queue m ≡ f → ⊥) → atℤ potentials f ≡ far
  pub none : (m : ℕ) → m < roots → at parents (at queue m) ≡ 1024
  pub proposed : (f : ℕ) → f < faces → ((m : ℕ) → m < roots → at queue m ≡ f → ⊥) → at parents f ≡ parent_from lefts darts proposal f
  pub beyond : (f : ℕ) → faces ≤ f → f < 1024 → ((m : ℕ) → m < roots → at queue m ≡ f → ⊥) → at parents f ≡ at proposal f
  pub waits : (m : ℕ) → m < roots → at waiting (at queue m) ≡ 1
  pub rests : (f : ℕ) → f < 1024 → ((m : ℕ) → m < roots → at queue m ≡ f → ⊥) → at waiting f ≡ 0

-- the dart d is crossed from the face i: its left face falls, or it cannot
abbrev pub Relaxed : (lefts : List ℕ) (lengths ρ : List ℤ) (parents : List ℕ) (ρ' : List ℤ) (parents' : List ℕ) (i d : ℕ) → Bool → Type 0
Relaxed lefts lengths ρ parents ρ' parents' i d true =
    (ρ' ≡ set ρ (at lefts d) (atℤ ρ i +ℤ atℤ lengths d))
    × (parents' ≡ set parents (at lefts d) d)
    × ((atℤ ρ i +ℤ atℤ lengths d) <ℤ atℤ ρ (at lefts d))
Relaxed lefts lengths ρ parents ρ' parents' i d false =
    (ρ' ≡ ρ) × (parents' ≡ parents) × (atℤ ρ (at lefts d) ≤ℤ (atℤ ρ i +ℤ atℤ lengths d))
