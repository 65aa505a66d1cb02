-- How great the numbers in the arrays may be, so that no sum of them is too large for the machine's words.
use Rattle.std.specs.Prelude.{ℕ}

-- the capacities of a sheet ("limits −1,000,000 to 1,000,000"), and so the flows within them
abbrev pub most_on_sheet : ℕ
most_on_sheet = 1000000

-- the capacities that the solver takes, so that a session's limits fit too (document 02, Job 11)
abbrev pub most_capacity : ℕ
most_capacity = 2000000

-- a value that is asked for ("delivery −600,000,000 to 600,000,000")
abbrev pub most_value : ℕ
most_value = 600000000

-- a capacity less a value: the path that a value is taken along uses an edge once at most
abbrev pub most_length : ℕ
most_length = 602000000

-- how often a ring of faces crosses a dart, and a sum of that along 1,024 darts
abbrev pub most_winding : ℕ
most_winding = 1024

abbrev pub most_height : ℕ
most_height = 1048576

-- potentials whose differences 64 bits hold
abbrev pub most_potential : ℕ
most_potential = 4000000000000000000
