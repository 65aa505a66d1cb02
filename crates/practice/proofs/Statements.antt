-- The statements of practice sheets, each from the contract alone.
use mathlib.Core.Path.{◌≡◌, refl, sym, ◌∙◌, ap, subst}
use mathlib.Core.List.{List}
use Prim.Native.Nat.{ℕ, ◌≤◌, ◌<◌}
use native.Mathlib.Omega.{arith}
use lib.ListN.{length, take, drop, length-append}
use lib.Seq.{take_at, drop_at}
use Rattle.fields.specs.Fields.{le16}
use Rattle.std.specs.Prelude.{Result, Ok, Err}
use Rattle.refusals.specs.Order.{NoneOf}
use Rattle.refusals.specs.declared.Refusal.{Refusal}
use Rattle.refusals.proofs.Order.{neither, first_none}
use Rattle.maps.specs.Walk.{Connected}
use Rattle.records.specs.Sheet.{kind_of, sheet_map, sheet_drawing}
use Rattle.records.specs.Encode.{plain_head, encode_plain}
use Rattle.records.proofs.Places.{front_length}
use Rattle.sheets.specs.Open.{sheet_checks}
use Rattle.practice.specs.Grid.{grid_edges}
use Rattle.practice.specs.Practice.{grid_drawing, practice_length, practice_checks, Practises}
use Rattle.practice.specs.Statements.{PracticeSheets}
use Rattle.practice.proofs.GridFlat.{grid_connected}
use Rattle.practice.proofs.Accepted.{grid_read, grid_accepted}
use Rattle.practice.proofs.Writing.{made_sizes}

module _ (rows columns seed : ℕ) where
  abbrev sheet : List ℕ
  sheet = encode_plain (grid_drawing rows columns seed)

  sheet_length : length sheet ≡ practice_length rows columns
  unfolding encode_plain plain_head le16
  sheet_length = front_length (plain_head (grid_drawing rows columns seed)) (grid_drawing rows columns seed) (grid_edges rows columns)

  sheet_kind : kind_of sheet ≡ 1
  unfolding encode_plain plain_head
  sheet_kind = refl

  -- what the checks leave
  sizes : (out : List ℕ) → NoneOf (practice_checks rows columns seed out)
      → (2 ≤ rows) × (rows ≤ 16) × (2 ≤ columns) × (columns ≤ 16) × (seed < 2147483648)
  unfolding NoneOf practice_checks
  sizes out h = made_sizes rows columns seed out h.0

  -- the sheet stands at the front of the output
  front : (out out' : List ℕ) (n : ℕ) → Practises rows columns seed out out' (Ok n) → take n out' ≡ sheet
  front out out' n h = ap (take n) h.2 ∙ take_at sheet (drop n out) n (sheet_length ∙ sym h.1)

  -- and what was there stands behind it
  rest_kept : (out out' : List ℕ) (n : ℕ) → Practises rows columns seed out out' (Ok n) → drop n out' ≡ drop n out
  rest_kept out out' n h = ap (drop n) h.2 ∙ drop_at sheet (drop n out) n (sheet_length ∙ sym h.1)

  -- its length is the number of bytes told, and the output holds as many
  pub front_counted : (out out' : List ℕ) (n : ℕ) → Practises rows columns seed out out' (Ok n) → (n ≤ length out') × (n ≡ length (take n out'))
  front_counted out out' n h = (
    omega (arith, ap length h.2, length-append sheet (drop n out), sheet_length, h.1),
    h.1 ∙ sym sheet_length ∙ ap length (sym (front out out' n h)),
  )

  accepted : (out out' : List ℕ) (n : ℕ)
      → Practises rows columns seed out out' (Ok n) → NoneOf (sheet_checks (take n out')) × (kind_of (take n out') ≡ 1)
  accepted out out' n h =
      let s = sizes out h.0 in
      subst (λ b. NoneOf (sheet_checks b) × (kind_of b ≡ 1)) (sym (front out out' n h))
      (grid_accepted rows columns s.0 s.1 s.2 s.3 seed, sheet_kind)

  drawn : (out out' : List ℕ) (n : ℕ)
      → Practises rows columns seed out out' (Ok n) → (sheet_drawing (take n out') ≡ grid_drawing rows columns seed) × Connected (sheet_map (take n out'))
  drawn out out' n h =
      let s = sizes out h.0 in
      let same = grid_read rows columns s.0 s.1 s.2 s.3 seed in
      subst (λ b. (sheet_drawing b ≡ grid_drawing rows columns seed) × Connected (sheet_map b)) (sym (front out out' n h))
      (same, subst (λ 𝓓. Connected 𝓓.map) (sym same) (grid_connected rows columns))

  all_pass : (out : List ℕ) → 2 ≤ rows → rows ≤ 16 → 2 ≤ columns → columns ≤ 16 → seed < 2147483648 → practice_length rows columns ≤ length out
      → NoneOf (practice_checks rows columns seed out)
  unfolding NoneOf practice_checks
  all_pass out r-low r-high c-low c-high small room = (
    neither (neither (λ l. omega arith) (λ l. omega arith)) (neither (neither (λ l. omega arith) (λ l. omega arith)) (λ l. omega arith)),
    ((λ l. omega arith), tt),
  )

  made : (out out' : List ℕ) (answer : Result ℕ Refusal)
      → 2 ≤ rows → rows ≤ 16 → 2 ≤ columns → columns ≤ 16 → seed < 2147483648 → practice_length rows columns ≤ length out
      → Practises rows columns seed out out' answer → answer ≡ Ok (practice_length rows columns)
  made out out' (Ok n) r-low r-high c-low c-high small room h = ap Ok h.1
  made out out' (Err r) r-low r-high c-low c-high small room h =
      absurd (first_none (practice_checks rows columns seed out) r.number r.place h.0 (all_pass out r-low r-high c-low c-high small room))

pub practice_sheets : PracticeSheets
practice_sheets = record {
  practice_accepted = accepted;
  practice_drawn = drawn;
  practice_made = made;
  practice_one = λ rows columns seed out out' other other' n m h g. front rows columns seed out out' n h ∙ sym (front rows columns seed other other' m g);
  rest_kept = rest_kept;
  refused_kept = λ rows columns seed out out' r h. h.1;
}
