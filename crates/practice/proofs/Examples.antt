-- Practice sheets by computation: the sheet of two rows, two columns and the seed 1, byte by byte; the turns at a node with four sides; limits of two seeds.
use mathlib.Core.Path.{◌≡◌, refl}
use mathlib.Core.List.{[], ◌∷◌}
use Rattle.fields.specs.Fields.{le16, le32, le_bits}
use Rattle.records.specs.Encode.{plain_head, encode_edge}
use Rattle.practice.specs.Side.{turn, next}
use Rattle.practice.specs.Grid.{beginning, ending, place_of, present, dart_at, grid_tail, grid_rotation}
use Rattle.practice.specs.Seed.{next_state, state_after, capacity_from, forward_of}
use Rattle.practice.specs.Practice.{grid_capacity, grid_drawing}

-- "each channel in order takes the next state": the first has the one after the seed
pub first_of_one : state_after 1 1 ≡ 1103527590
unfolding state_after next_state
first_of_one = refl

pub limits_of_one : forward_of 1 0 ∷ forward_of 1 1 ∷ forward_of 1 2 ∷ forward_of 1 3 ∷ [] ≡ 38 ∷ 58 ∷ 13 ∷ 15 ∷ []
unfolding forward_of capacity_from state_after next_state
limits_of_one = refl

pub limits_of_the_last : forward_of 2147483647 0 ∷ forward_of 2147483647 1 ∷ forward_of 2147483647 2 ∷ [] ≡ 29 ∷ 9 ∷ 62 ∷ []
unfolding forward_of capacity_from state_after next_state
limits_of_the_last = refl

-- the middle node of three rows and three columns: dart 15 runs north, 6 east, 20 south, 5 west
pub middle_turns : grid_rotation 3 3 15 ∷ grid_rotation 3 3 6 ∷ grid_rotation 3 3 20 ∷ grid_rotation 3 3 5 ∷ [] ≡ 6 ∷ 20 ∷ 5 ∷ 15 ∷ []
unfolding grid_rotation place_of beginning ending present dart_at next turn
middle_turns = refl

-- with two rows and three columns the channels that run down are 4, 5 and 6, from the nodes 0, 1 and 2
pub down_from : grid_tail 2 3 8 ∷ grid_tail 2 3 10 ∷ grid_tail 2 3 12 ∷ [] ≡ 0 ∷ 1 ∷ 2 ∷ []
unfolding grid_tail place_of beginning ending
down_from = refl

-- two rows, two columns, seed 1
pub two_by_two_head : plain_head (grid_drawing 2 2 1) ≡ 1 ∷ 4 ∷ 0 ∷ 4 ∷ 0 ∷ []
unfolding plain_head le16
two_by_two_head = refl

pub two_by_two_0 : encode_edge (grid_drawing 2 2 1) 0 ≡ 2 ∷ 0 ∷ 0 ∷ 1 ∷ 0 ∷ 4 ∷ 0 ∷ 6 ∷ 0 ∷ 38 ∷ 0 ∷ 0 ∷ 0 ∷ 0 ∷ 0 ∷ 0 ∷ 0 ∷ []
unfolding encode_edge le16 le32 le_bits grid_tail grid_rotation grid_capacity place_of beginning ending present dart_at next turn
    forward_of capacity_from state_after next_state
two_by_two_0 = refl

pub two_by_two_1 : encode_edge (grid_drawing 2 2 1) 1 ≡ 2 ∷ 2 ∷ 0 ∷ 3 ∷ 0 ∷ 5 ∷ 0 ∷ 7 ∷ 0 ∷ 58 ∷ 0 ∷ 0 ∷ 0 ∷ 0 ∷ 0 ∷ 0 ∷ 0 ∷ []
unfolding encode_edge le16 le32 le_bits grid_tail grid_rotation grid_capacity place_of beginning ending present dart_at next turn
    forward_of capacity_from state_after next_state
two_by_two_1 = refl

pub two_by_two_2 : encode_edge (grid_drawing 2 2 1) 2 ≡ 2 ∷ 0 ∷ 0 ∷ 2 ∷ 0 ∷ 0 ∷ 0 ∷ 2 ∷ 0 ∷ 13 ∷ 0 ∷ 0 ∷ 0 ∷ 0 ∷ 0 ∷ 0 ∷ 0 ∷ []
unfolding encode_edge le16 le32 le_bits grid_tail grid_rotation grid_capacity place_of beginning ending present dart_at next turn
    forward_of capacity_from state_after next_state
two_by_two_2 = refl

pub two_by_two_3 : encode_edge (grid_drawing 2 2 1) 3 ≡ 2 ∷ 1 ∷ 0 ∷ 3 ∷ 0 ∷ 1 ∷ 0 ∷ 3 ∷ 0 ∷ 15 ∷ 0 ∷ 0 ∷ 0 ∷ 0 ∷ 0 ∷ 0 ∷ 0 ∷ []
unfolding encode_edge le16 le32 le_bits grid_tail grid_rotation grid_capacity place_of beginning ending present dart_at next turn
    forward_of capacity_from state_after next_state
two_by_two_3 = refl
