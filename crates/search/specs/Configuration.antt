-- How a search stands between two looks: its arrays, its queue and its counts.
use Rattle.std.specs.Prelude.{List, ℕ, ℤ}
use Rattle.search.specs.Queue.{face_at}

-- what a look or a straightening changes: the arrays, and the end of the queue
pub record Tables : Type 0 where
  pub potentials : List ℤ
  pub parents : List ℕ
  pub waiting : List ℕ
  pub queue : List ℕ
  pub last : ℕ

abbrev pub tables_of : (potentials : List ℤ) (parents waiting queue : List ℕ) (last : ℕ) → Tables
tables_of potentials parents waiting queue last =
    record { potentials = potentials; parents = parents; waiting = waiting; queue = queue; last = last }

-- between looks: the face at place `first` is to be looked at next; the levels are straightened after `left` more looks
pub record Configuration : Type 0 where
  pub tables : Tables
  pub first : ℕ
  pub left : ℕ

abbrev pub configuration : Tables → (first left : ℕ) → Configuration
configuration t first left = record { tables = t; first = first; left = left }

-- the face that is to be looked at next
abbrev pub front : Configuration → ℕ
front c = face_at c.tables.queue c.first
