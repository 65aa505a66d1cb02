-- From what is known of a drawing to the lines of the table: an accepted sheet that holds the drawing gets these answers, by the contracts of the operations.
-- What the drawing must be known by is a record for each kind of answer; the facts of one drawing are in proofs/Table.antt.
use mathlib.Core.Path.{◌≡◌, refl, sym, ◌∙◌, subst, ap, ap₂}
use mathlib.Core.List.{List, ◌++◌}
use Prim.Native.Nat.{ℕ, ◌≤◌, ◌<◌}
use native.Mathlib.Omega.{arith}
use lib.ListN.{length, get_or, drop}
use lib.IntN.{ℤ, pos, ◌+ℤ◌}
use lib.Signed.{◌≤ℤ◌, ◌<ℤ◌}
use Rattle.integers.proofs.Laws.{le_trans, le_antisym}
use Rattle.std.specs.Prelude.{Option, Some, None, Result, Ok, Err}
use Rattle.refusals.specs.Order.{NoneOf, FirstOf}
use Rattle.refusals.specs.Refused.{refused}
use Rattle.refusals.specs.declared.Refusal.{Refusal}
use Rattle.refusals.proofs.Order.{first_none, first_one, neither}
use Rattle.maps.specs.Map.{darts}
use Rattle.maps.specs.Face.{faces, left}
use Rattle.maps.specs.Cut.{cut}
use Rattle.flows.specs.Settings.{Within, Balanced}
use Rattle.flows.specs.Levels.{Levels}
use Rattle.flows.specs.Highest.{Highest}
use Rattle.flows.specs.ProvingSet.{Proves, member, size, SetOf}
use Rattle.flows.proofs.Interval.{source_limits}
use Rattle.flows.specs.inner.Sides.{AtSource}
use Rattle.balance.proofs.Within.{within_none}
use Rattle.balance.proofs.Balance.{circulation_none}
use Rattle.maps.specs.Drawing.{Drawing}
use Rattle.arrays.proofs.Tabulate.{tabulate_ext, tabulate_get_d}
use Rattle.records.specs.Sheet.{nodes_of, edges_of, capacity_of, sheet_map, sheet_drawing, outer_of}
use Rattle.sheets.specs.declared.Network.{Network}
use Rattle.arrays.specs.At.{atℤ}
use Rattle.arrays.specs.declared.Sizes.{Sizes}
use Rattle.sheets.specs.Open.{sheet_checks, Opens}
use Rattle.arrays.specs.Filled.{filled}
use Rattle.questions.specs.Question.{end_checks, value_checks, room_checks, SetWritten}
use Rattle.analyser.specs.Solve.{solve_checks, Solves}
use Rattle.questions.specs.declared.Solution.{Solution}
use Rattle.questions.specs.declared.Solution.TheVariants.{Can, Cannot}
use Rattle.analyser.specs.Largest.{largest_checks, FindsLargest}
use Rattle.analyser.specs.LevelsOf.{levels_checks, GivesLevels}
use Rattle.questions.proofs.Asked.{ends_in, ends_differ}
use Rattle.analyser.proofs.SheetPlane.{plane, levels_unique}
use Rattle.analyser.proofs.Accepted.{solve_none, largest_none, levels_none}
use Rattle.analyser.proofs.Opened as with-sheet
use Rattle.levels.proofs.Given.{balanced_none}
use Rattle.analyser.proofs.Asked.{excludes, one_highest}
use Rattle.analyser.proofs.Demand3.{never_refused, largest_answered, nothing_greater, none_delivered}
use Rattle.starred.specs.Table.{front, Room, SolveCan, SolveCannot, SolveRefused, LargestIs, LargestNone, LevelsAre, InFace}
use Rattle.starred.proofs.Sheets.{Good}

-- ── what a drawing is known by ──
-- these settings are the highest answer for the value
pub record CanBy (source sink : ℕ) (value : ℤ) (settings : List ℤ) (𝓓 : Drawing) : Type 0 where
  pub ends : NoneOf (end_checks 𝓓.map.nodes source sink)
  pub long : length settings ≡ 𝓓.map.edges
  pub highest : Highest 𝓓.map 𝓓.outer 𝓓.capacity source sink value (atℤ settings)

-- this set proves the value impossible, and no other does
pub record CannotBy (source sink : ℕ) (value : ℤ) (words : List ℕ) (𝓓 : Drawing) : Type 0 where
  pub ends : NoneOf (end_checks 𝓓.map.nodes source sink)
  pub proves : Proves 𝓓.map 𝓓.capacity source sink value (member words)
  pub only : (ws : List ℕ) → SetOf 𝓓.map.nodes ws → Proves 𝓓.map 𝓓.capacity source sink value (member ws) → ws ≡ words

-- nothing above the value leaves the source
abbrev pub Full : (source sink : ℕ) → ℤ → List ℕ → Drawing → Type 0
Full source sink value words 𝓓 = AtSource source sink (member words) × (cut 𝓓.map 𝓓.capacity (member words) ≤ℤ value)

-- this set, which holds both ends or neither, has an outward total below 0, and no other does
pub record NoneBy (source sink : ℕ) (words : List ℕ) (𝓓 : Drawing) : Type 0 where
  pub ends : NoneOf (end_checks 𝓓.map.nodes source sink)
  pub proves : (value : ℤ) → Proves 𝓓.map 𝓓.capacity source sink value (member words)
  pub only : (ws : List ℕ) → SetOf 𝓓.map.nodes ws → member ws source ≡ member ws sink → cut 𝓓.map 𝓓.capacity (member ws) <ℤ pos 0 → ws ≡ words

-- these are the levels of the settings, one for each face
pub record LevelsBy (settings : List ℤ) (found : List ℤ) (𝓓 : Drawing) : Type 0 where
  pub settings_long : 𝓓.map.edges ≤ length settings
  pub found_long : length found ≡ faces 𝓓.map
  pub within : Within 𝓓.map 𝓓.capacity (atℤ settings)
  pub balanced : Balanced 𝓓.map (atℤ settings)
  pub levels : Levels 𝓓.map 𝓓.outer (atℤ settings) (atℤ found)

-- what is known of the drawing is known of the sheet's
pub on_sheet : {s : List ℕ} {𝓓 : Drawing} → Good s 𝓓 → (P : Drawing → Type 0) → P 𝓓 → P (sheet_drawing s)
on_sheet good P h = subst P (sym good.drawing) h

-- ── slices ──
-- a slice filled with the numbers of a list has the list in front
filled_front : {E : Type 0} (z : E) (n : ℕ) (f : ℕ → E) (new old now' : List E) → length new ≡ n
    → ((i : ℕ) → i < n → f i ≡ get_or new i z) → now' ≡ filled n f old → now' ≡ front new old
filled_front z n f new old now' long same e =
    e ∙ ap₂ (λ (a b : List _). a ++ b) (tabulate_ext n f (λ i. get_or new i z) same ∙ tabulate_get_d n new z long) (ap (λ (k : ℕ). drop k old) (sym long))

set_front : {nodes : ℕ} {ws words set set' : List ℕ} → SetWritten nodes ws set set' → ws ≡ words → set' ≡ front words set
set_front {nodes} {ws} {words} {set} w e = w.placed ∙ ap (λ (k : ℕ). ws ++ drop k set) (sym w.is_set.long) ∙ ap (λ (l : List ℕ). front l set) e

has_room : (s : List ℕ) (flows : List ℤ) (set : List ℕ) → Room s flows set → NoneOf (room_checks (nodes_of s) (edges_of s) (length flows) (length set))
unfolding NoneOf room_checks
has_room s flows set room = (neither (λ h. omega (arith, room.0)) (λ h. omega (arith, room.1)), tt)

-- ── Solve ──
module _ {s : List ℕ} {𝓓 : Drawing} (good : Good s 𝓓) (source sink : ℕ) (value : ℤ) (inside : NoneOf (value_checks value)) where
  asked : (flows : List ℤ) (set : List ℕ) → NoneOf (end_checks (nodes_of s) source sink) → Room s flows set → NoneOf
      (solve_checks s source sink value flows set)
  asked flows set two room =
      solve_none s source sink value flows set (record { sheet = good.accepted; ends_two = two; value_inside = inside; has_room = has_room s flows set room })

  pub solve_can : (settings : List ℤ) → CanBy source sink value settings 𝓓 → SolveCan s source sink value settings
  solve_can settings by flows flows' set set' answer room solved = go answer solved
    where
      k : CanBy source sink value settings (sheet_drawing s)
      k = on_sheet good (CanBy source sink value settings) by

      go : (a : Result Solution Refusal) → Solves s source sink value flows flows' set set' a → (a ≡ Ok Can) × (flows' ≡ front settings flows) × (set' ≡ set)
      go (Ok Can) h = (
        refl,
        filled_front (pos 0) (edges_of s) h.1.0 settings flows flows' k.long
            (one_highest s good.accepted source sink k.ends value h.1.0 (atℤ settings) h.1.1 k.highest)
            h.1.2,
        h.2,
      )
      go (Ok (Cannot n)) h = absurd (excludes s good.accepted source sink k.ends value (member h.1.0) h.1.2 (atℤ settings) k.highest.carries)
      go (Err r) h = absurd (never_refused s source sink value flows flows' set set' (asked flows set k.ends room) r h)

  pub solve_cannot : (words : List ℕ) (n : ℕ) → size words ≡ n → CannotBy source sink value words 𝓓 → SolveCannot s source sink value words n
  solve_cannot words n ones by flows flows' set set' answer room solved = go answer solved
    where
      k : CannotBy source sink value words (sheet_drawing s)
      k = on_sheet good (CannotBy source sink value words) by

      go : (a : Result Solution Refusal) → Solves s source sink value flows flows' set set' a
          → (a ≡ Ok (Cannot n)) × (set' ≡ front words set) × (flows' ≡ flows)
      go (Ok Can) h = absurd (excludes s good.accepted source sink k.ends value (member words) k.proves h.1.0 h.1.1.carries)
      go (Ok (Cannot m)) h =
          let same : h.1.0 ≡ words = k.only h.1.0 h.1.1.is_set h.1.2 in
          (ap (λ (k : ℕ). Ok (Cannot k)) (h.1.3 ∙ ap size same ∙ ones), set_front h.1.1 same, h.2)
      go (Err r) h = absurd (never_refused s source sink value flows flows' set set' (asked flows set k.ends room) r h)

pub solve_refused : (s : List ℕ) (n : ℕ) → FirstOf (sheet_checks s) n 0 → (source sink : ℕ) (value : ℤ) → SolveRefused s source sink value n
solve_refused s n bad source sink value flows flows' set set' answer solved = go answer solved
  where
    first : FirstOf (solve_checks s source sink value flows set) n 0
    first = (with-sheet.solve_refused s (record { number = n; place = 0 }) bad source sink value flows set).0

    go : (a : Result Solution Refusal) → Solves s source sink value flows flows' set set' a → (a ≡ refused n 0) × (flows' ≡ flows) × (set' ≡ set)
    go (Ok Can) h = absurd (first_none (solve_checks s source sink value flows set) n 0 first h.0)
    go (Ok (Cannot m)) h = absurd (first_none (solve_checks s source sink value flows set) n 0 first h.0)
    go (Err r) h = let e = first_one (solve_checks s source sink value flows set) r.number r.place n 0 h.0 first in (ap₂ refused e.0 e.1, h.1, h.2)

-- ── Largest ──
module _ {s : List ℕ} {𝓓 : Drawing} (good : Good s 𝓓) (source sink : ℕ) where
  sought : (flows : List ℤ) (set : List ℕ) → NoneOf (end_checks (nodes_of s) source sink) → Room s flows set → NoneOf (largest_checks s source sink flows set)
  sought flows set two room = largest_none s source sink flows set (record { sheet = good.accepted; ends_two = two; has_room = has_room s flows set room })

  -- the settings carry the value, and the set lets no more out; the next value has one proving set
  pub largest_is : (value : ℤ) (settings : List ℤ) (words : List ℕ) → CanBy source sink value settings 𝓓 → Full source sink value words 𝓓
      → CannotBy source sink (value +ℤ pos 1) words 𝓓 → LargestIs s source sink value settings words
  largest_is value settings words by full next flows flows' set set' answer room found = go answer found
    where
      k : CanBy source sink value settings (sheet_drawing s)
      k = on_sheet good (CanBy source sink value settings) by

      f : Full source sink value words (sheet_drawing s)
      f = on_sheet good (Full source sink value words) full

      n : CannotBy source sink (value +ℤ pos 1) words (sheet_drawing s)
      n = on_sheet good (CannotBy source sink (value +ℤ pos 1) words) next

      whole : NoneOf (largest_checks s source sink flows set)
      whole = sought flows set k.ends room

      ends : (source < nodes_of s) × (sink < nodes_of s)
      ends = ends_in (nodes_of s) source sink k.ends

      go : (a : Result (Option ℤ) Refusal) → FindsLargest s source sink flows flows' set set' a
          → (a ≡ Ok (Some value)) × (flows' ≡ front settings flows) × (set' ≡ front words set)
      go (Ok (Some v)) h =
          let above : value ≤ℤ v = nothing_greater s source sink flows flows' set set' whole v h value (atℤ settings) k.highest.carries in
          let below : v ≤ℤ value =
          le_trans
          (source_limits (plane s good.accepted).sound.range ends.0 ends.1
          (ends_differ (nodes_of s) source sink k.ends) (capacity_of s) (member words) f.0 v h.1.0 h.1.1.carries)
          f.1 in
          let e : v ≡ value = le_antisym below above in
          let x = h.1.0 in
          let ws = h.2.0 in (
            ap (λ (w : ℤ). Ok (Some w)) e,
            filled_front (pos 0) (edges_of s) x settings flows flows' k.long
                (one_highest s good.accepted source sink k.ends value x (atℤ settings)
                (subst (λ (w : ℤ). Highest (sheet_map s) (outer_of s) (capacity_of s) source sink w x) e h.1.1) k.highest)
                h.1.2,
            set_front h.2.1
                (n.only ws h.2.1.is_set (subst (λ (w : ℤ). Proves (sheet_map s) (capacity_of s) source sink (w +ℤ pos 1) (member ws)) e h.2.2)),
          )
      go (Ok None) h = absurd (none_delivered s source sink flows flows' set set' whole h value (atℤ settings) k.highest.carries)
      go (Err r) h = absurd (largest_answered s source sink flows flows' set set' whole r h)

  pub largest_is_none : (words : List ℕ) → NoneBy source sink words 𝓓 → LargestNone s source sink words
  largest_is_none words by flows flows' set set' answer room found = go answer found
    where
      k : NoneBy source sink words (sheet_drawing s)
      k = on_sheet good (NoneBy source sink words) by

      go : (a : Result (Option ℤ) Refusal) → FindsLargest s source sink flows flows' set set' a → (a ≡ Ok None) × (flows' ≡ flows) × (set' ≡ front words set)
      go (Ok (Some v)) h = absurd (excludes s good.accepted source sink k.ends v (member words) (k.proves v) h.1.0 h.1.1.carries)
      go (Ok None) h = (refl, h.1, set_front h.2.1 (k.only h.2.0 h.2.1.is_set h.2.2.0 h.2.2.1))
      go (Err r) h = absurd (largest_answered s source sink flows flows' set set' (sought flows set k.ends room) r h)

-- ── Levels from settings ──
pub levels_are : {s : List ℕ} {𝓓 : Drawing} → Good s 𝓓 → (settings found : List ℤ)
    → ((more : List ℤ) → LevelsBy (settings ++ more) found 𝓓) → LevelsAre s settings found
levels_are {s} good settings found by more levels levels' answer room given = go answer given
  where
    flows : List ℤ
    flows = settings ++ more

    k : LevelsBy (settings ++ more) found (sheet_drawing s)
    k = on_sheet good (LevelsBy (settings ++ more) found) (by more)

    whole : NoneOf (levels_checks s (settings ++ more) levels)
    whole =
        levels_none s (settings ++ more) levels good.accepted
        (balanced_none (sheet_drawing s) (settings ++ more) levels k.settings_long (omega (arith, k.found_long))
        (within_none (sheet_map s) (capacity_of s) (atℤ (settings ++ more)) k.within)
        (circulation_none (sheet_map s) (atℤ (settings ++ more)) k.balanced))

    go : (a : Result Unit Refusal) → GivesLevels s (settings ++ more) levels levels' a → (a ≡ Ok tt) × (levels' ≡ front found levels)
    go (Ok tt) h = (
      refl,
      filled_front (pos 0) (faces (sheet_map s)) h.1.0 found levels levels' k.found_long
          (levels_unique s good.accepted (atℤ (settings ++ more)) h.1.0 (atℤ found) h.1.1 k.levels)
          h.1.2,
    )
    go (Err r) h = absurd (first_none (levels_checks s (settings ++ more) levels) r.number r.place h.0 whole)

-- ── opening a sheet ──
pub opened : {s : List ℕ} {𝓓 : Drawing} → Good s 𝓓 → (n : Network) → Opens s n n.opened
    → ((sizes : Sizes) × (n.opened ≡ Ok sizes)) × ((d : ℕ) → d < darts 𝓓.map → InFace n.lefts (left 𝓓.map d) d)
opened {s} {𝓓} good n h =
    subst (λ (𝓔 : Drawing). ((sizes : Sizes) × (n.opened ≡ Ok sizes)) × ((d : ℕ) → d < darts 𝓔.map → InFace n.lefts (left 𝓔.map d) d)) good.drawing
    (go n.opened h)
  where
    go : (r : Result Sizes Refusal) → Opens s n r
        → ((sizes : Sizes) × (r ≡ Ok sizes)) × ((d : ℕ) → d < darts (sheet_map s) → InFace n.lefts (left (sheet_map s) d) d)
    go (Ok sizes) h = ((sizes, refl), h.1.lefts_are)
    go (Err r) h = absurd (first_none (sheet_checks s) r.number r.place h good.accepted)

pub refused_open : (s : List ℕ) (k : ℕ) → FirstOf (sheet_checks s) k 0 → (n : Network) → Opens s n n.opened → n.opened ≡ refused k 0
refused_open s k bad n h = go n.opened h
  where
    go : (r : Result Sizes Refusal) → Opens s n r → r ≡ refused k 0
    go (Ok sizes) h = absurd (first_none (sheet_checks s) k 0 bad h.0)
    go (Err r) h = let e = first_one (sheet_checks s) r.number r.place k 0 h bad in ap₂ refused e.0 e.1
