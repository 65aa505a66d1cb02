-- Records. Document 01, "Records of a sheet": "A record is one byte of kind, then a body. A table fixes the body length of each kind: 1 has 4 bytes, 2 has
-- 16, 3 has 8." Kind 1 is the head of a sheet, 2 an edge ("channel"), 3 a question. Document 02, Job 6: 4, a head that names the outer dart too, has 6.
-- Job 10: 5, an entry of a capture, has 10.
use Rattle.std.specs.Prelude.{ℕ, ◌+◌, ◌≤◌, ◌<◌, ◌≢◌, cond, List, [], ◌∷◌, ltb, length, get_or}
use Rattle.refusals.specs.Order.{Check, ◌when◌}

-- the table; 0 for a kind that there is not
abbrev pub body_length : ℕ → ℕ
body_length kind = cond (ltb kind 6) (get_or (0 ∷ 4 ∷ 16 ∷ 8 ∷ 6 ∷ 10 ∷ []) kind 0) 0

-- the byte of kind, and the body
abbrev pub record_length : ℕ → ℕ
record_length kind = 1 + body_length kind

-- a record of this kind is asked for at `at`: "1 no byte; 2 kind not 2; 1 body cut short", and so for a question; a head may have either of two kinds
unfoldable pub record_checks : List ℕ → ℕ → ℕ → List Check
record_checks s kind at =
    (1 when length s ≤ at)
    ∷ (2 when get_or s at 0 ≢ kind)
    ∷ (1 when length s < at + record_length kind)
    ∷ []
