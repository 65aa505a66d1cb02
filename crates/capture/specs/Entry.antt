-- The records of a capture. Document 02, Job 10: "The SPI recorder leaves records of kind 5, 10 bytes of body: tick (32 bits, unsigned), channel (16), forward
-- limit (32, signed). The capture stays in the recorder's bytes and is read forward, record by record." A channel is an edge, its forward limit a capacity.
use Rattle.std.specs.Prelude.{ℕ, zero, suc, ◌+◌, ◌*◌, ◌/◌, ◌≤◌, ◌<◌, ◌≢◌, List, [], ◌∷◌, length, get_or, ℤ}
use Rattle.refusals.specs.Order.{Check, ◌when◌}
use Rattle.fields.specs.Fields.{u16_at, u32_at, i32_at}
use Rattle.records.specs.Record.{record_length}

-- where record i begins, from 0: each has the byte of kind and its body, 11 bytes
abbrev pub entry_place : ℕ → ℕ
entry_place i = record_length 5 * i

abbrev pub tick_of : List ℕ → ℕ → ℕ
tick_of b i = u32_at b (entry_place i + 1)

abbrev pub channel_of : List ℕ → ℕ → ℕ
channel_of b i = u16_at b (entry_place i + 5)

abbrev pub limit_of : List ℕ → ℕ → ℤ
limit_of b i = i32_at b (entry_place i + 7)

-- the tick of the record before; the first has none before it, and no tick is below 0
abbrev pub tick_before : List ℕ → ℕ → ℕ
tick_before b zero = 0
tick_before b (suc i) = tick_of b i

-- how many records begin, the last of them perhaps cut short
abbrev pub begun : List ℕ → ℕ
begun b = (length b + 10) / 11

-- "Then every record of the capture in turn: 2, 1 for a body cut short, 25, and 27 for a tick that goes back": a kind that is not 5, a channel that the drawing
-- has not ("25, the channel does not exist", Job 7), a tick below the one before; "equal ticks are fine"
unfoldable pub entry_checks : (edges : ℕ) → List ℕ → ℕ → List Check
entry_checks edges b i =
    (2 when get_or b (entry_place i) 0 ≢ 5)
    ∷ (1 when length b < entry_place (i + 1))
    ∷ (25 when edges ≤ channel_of b i)
    ∷ (27 when tick_of b i < tick_before b i)
    ∷ []
