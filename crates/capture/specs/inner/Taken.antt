-- What the loops over a capture know: the records looked at passed, with the tick of the last; the window's records taken into marks and capacities.
use Rattle.std.specs.Prelude.{ℕ, ◌+◌, ◌≤◌, ◌<◌, ◌≡◌, cond, List, eqb, ltb, length, ℤ, Result, Ok, Err}
use Rattle.refusals.specs.Order.{NoneOf, FirstOf}
use Rattle.refusals.specs.declared.Refusal.{Refusal}
use Rattle.arrays.specs.At.{at, atℤ}
use Rattle.records.specs.Record.{record_length}
use Rattle.capture.specs.Entry.{entry_place, tick_before, entry_checks}
use Rattle.capture.specs.Window.{Seen, unseen, least, lesser, seen_in, laid, found}
use Rattle.capture.specs.Capture.{records_checks, taking_checks}

-- the records before `place` passed, and `tick` is that of the last of them
pub record Passing (edges : ℕ) (b : List ℕ) (place tick : ℕ) : Type 0 where
  pub count : ℕ
  pub placed : place ≡ entry_place count
  pub inside : place ≤ length b
  pub last : tick ≡ tick_before b count
  pub passed : (i : ℕ) → i < count → NoneOf (entry_checks edges b i)

-- what the records before `place` come to: they have passed, with the tick of the last of them, or one of them is refused
abbrev pub Stands : (edges : ℕ) → List ℕ → (place : ℕ) → Result ℕ Refusal → Type 0
Stands edges b place (Ok tick) = Passing edges b place tick
Stands edges b place (Err r) = FirstOf (records_checks edges b) r.number r.place

-- the place behind the record at `place`: a record's length farther, or the end of the capture where that is nearer
unfoldable pub place_behind : List ℕ → ℕ → ℕ
place_behind b place = cond (ltb (length b) (place + record_length 5)) (length b) (place + record_length 5)

-- the mark of a channel: 1 once it is seen
abbrev pub mark : Seen → ℕ
mark unseen = 0
mark (least x) = 1

-- the capacity of a channel's forward dart once a record of it is taken: its limit where the channel is new, else the lesser
abbrev pub lowered : (mark : ℕ) (present limit : ℤ) → ℤ
lowered m present limit = cond (eqb m 0) limit (lesser limit present)

-- k records from `first` on are taken: the marks of the channels, and the capacities, which were c
pub record Taken (c : ℕ → ℤ) (b : List ℕ) (first k : ℕ) (marks : List ℕ) (capacities : List ℤ) : Type 0 where
  pub marks_long : length marks ≡ 512
  pub long : length capacities ≡ 1024
  pub marked : (e : ℕ) → e < 512 → at marks e ≡ mark (seen_in b e first k)
  pub capacities_are : (d : ℕ) → atℤ capacities d ≡ laid c b first k d

-- what comes of the checks on a capture and on the limits found: they are judged in order, and where none holds the capacities are those found
abbrev pub LimitsTaken : (edges : ℕ) → (c c' : ℕ → ℤ) → List ℕ → (w n : ℕ) → Result Unit Refusal → Type 0
LimitsTaken edges c c' b w n (Ok done) = NoneOf (taking_checks edges c b w n) × ((d : ℕ) → c' d ≡ found c b w n d)
LimitsTaken edges c c' b w n (Err r) = FirstOf (taking_checks edges c b w n) r.number r.place
