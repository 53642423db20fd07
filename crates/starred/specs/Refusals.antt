-- Refusals of files, maps and plans, computed.
-- Assumes nothing.
use Rattle.std.specs.Prelude.{ℕ, ◌≡◌, List, [], ◌∷◌, set, Ok, Err}
use Rattle.array.specs.Tests.{refusal, refuse}
use Rattle.array.specs.Buffer.{zeros}
use Rattle.array.specs.Map.{well_formed}
use Rattle.array.specs.Tests.{Verdict}
use Rattle.plans.specs.Faults.{fault}
use Rattle.plans.specs.declared.Fault.{Fault}
use Rattle.formats.specs.Number.{refused, number_at, bytes_of}
use Rattle.plans.specs.Check.{check_plan}
use Rattle.readers.specs.Reading.{read_map, read_plan}
use Rattle.writers.specs.Writing.{write_map, write_plan}
use Rattle.starred.specs.Grids.{grid_of, directions_of}

-- a reader refuses these bytes so, over a buffer of zeros, which stays
abbrev pub MapRefused : List ℕ → ℕ → ℕ → Type 0
MapRefused s k p = read_map s zeros ≡ (Err (refusal k p 0), zeros)

abbrev pub PlanRefused : List ℕ → ℕ → ℕ → Type 0
PlanRefused s k p = read_plan s zeros ≡ (Err (refusal k p 0), zeros)

-- the directions of one path, from (1, 1) to the south
abbrev pub south_path : List ℕ
south_path = directions_of (fault 33 1 ∷ [])

pub record FileRefusals : Type 0 where
  -- 82 00 for N; an empty file; a third byte with its top bit set; numbers that end after their first byte and their second
  pub not_shortest : MapRefused (130 ∷ 0 ∷ []) 9 0
  pub empty_file : MapRefused [] 8 0
  pub third_top_bit : MapRefused (2 ∷ 2 ∷ 129 ∷ 128 ∷ 128 ∷ []) 9 2
  pub first_alone : MapRefused (2 ∷ 2 ∷ 129 ∷ []) 8 3
  pub two_alone : MapRefused (2 ∷ 2 ∷ 129 ∷ 128 ∷ []) 8 4
  -- M is 31, at its offset; a cut record whose row is bad
  pub size_31 : MapRefused (2 ∷ 31 ∷ []) 1 1
  pub cut_record : MapRefused (2 ∷ 2 ∷ 1 ∷ 9 ∷ []) 8 4
  -- row 0 and column 33 are not (1, 1), nor are row 16,385 and column 1; a repeat; bytes after the last record of each list;
  -- a second list that ends early
  pub no_alias : MapRefused (2 ∷ 2 ∷ 1 ∷ 0 ∷ 33 ∷ []) 10 3
  pub no_long_alias : MapRefused (2 ∷ 2 ∷ 1 ∷ 129 ∷ 128 ∷ 1 ∷ 1 ∷ []) 10 3
  pub repeated : MapRefused (2 ∷ 2 ∷ 2 ∷ 1 ∷ 1 ∷ 1 ∷ 1 ∷ []) 11 5
  pub byte_after : MapRefused (2 ∷ 2 ∷ 0 ∷ 0 ∷ []) 12 3
  pub byte_after_dead : MapRefused (2 ∷ 2 ∷ 0 ∷ 1 ∷ 1 ∷ 1 ∷ 7 ∷ []) 12 6
  pub second_cut : MapRefused (2 ∷ 2 ∷ 0 ∷ 7 ∷ []) 8 4
  -- 19: (1, 1) after (2, 1), of a map and of a plan; a third record that is lower than the second, though not than the first
  pub lower : MapRefused (2 ∷ 2 ∷ 2 ∷ 2 ∷ 1 ∷ 1 ∷ 1 ∷ []) 19 5
  pub lower_path : PlanRefused (2 ∷ 2 ∷ 2 ∷ 2 ∷ 1 ∷ 1 ∷ 1 ∷ 1 ∷ 1 ∷ 0 ∷ []) 19 6
  pub lower_third : MapRefused (2 ∷ 2 ∷ 3 ∷ 1 ∷ 0 ∷ 2 ∷ 1 ∷ 1 ∷ 1 ∷ []) 19 7
  -- a lower one that is cut, that is at no processor, that repeats the first, that has direction 5
  pub lower_cut : MapRefused (2 ∷ 2 ∷ 2 ∷ 2 ∷ 1 ∷ 1 ∷ []) 8 6
  pub lower_outside : MapRefused (2 ∷ 2 ∷ 2 ∷ 2 ∷ 1 ∷ 0 ∷ 0 ∷ []) 10 5
  pub lower_repeated : MapRefused (2 ∷ 2 ∷ 3 ∷ 1 ∷ 1 ∷ 2 ∷ 1 ∷ 1 ∷ 1 ∷ []) 11 7
  pub lower_directed : PlanRefused (2 ∷ 2 ∷ 2 ∷ 2 ∷ 1 ∷ 1 ∷ 1 ∷ 1 ∷ 5 ∷ 0 ∷ []) 13 6
  -- a path that starts at a spare; a repeat; direction 5; a repeat before direction 5
  pub spare_start : PlanRefused (2 ∷ 2 ∷ 1 ∷ 0 ∷ 1 ∷ 1 ∷ 0 ∷ []) 10 3
  pub path_repeated : PlanRefused (2 ∷ 2 ∷ 2 ∷ 1 ∷ 1 ∷ 1 ∷ 1 ∷ 1 ∷ 5 ∷ 0 ∷ []) 11 6
  pub direction_5 : PlanRefused (2 ∷ 2 ∷ 1 ∷ 1 ∷ 1 ∷ 5 ∷ 0 ∷ []) 13 3
  -- direction 0; a buffer that is too short, before the file is looked at
  pub direction_0 : PlanRefused (2 ∷ 2 ∷ 1 ∷ 1 ∷ 1 ∷ 0 ∷ 0 ∷ []) 13 3
  pub buffer_first : read_map [] [] ≡ (Err (refusal 2 0 0), [])
  -- T of a plan: none; 80 80 alone; 80 00; a byte after it; direction 5 before it
  pub no_trials : PlanRefused (2 ∷ 2 ∷ 1 ∷ 1 ∷ 1 ∷ 1 ∷ []) 8 6
  pub trials_cut : PlanRefused (2 ∷ 2 ∷ 0 ∷ 128 ∷ 128 ∷ []) 8 5
  pub trials_not_shortest : PlanRefused (2 ∷ 2 ∷ 0 ∷ 128 ∷ 0 ∷ []) 9 3
  pub byte_after_trials : PlanRefused (2 ∷ 2 ∷ 0 ∷ 128 ∷ 1 ∷ 0 ∷ []) 12 5
  pub path_before_trials : PlanRefused (2 ∷ 2 ∷ 1 ∷ 1 ∷ 1 ∷ 5 ∷ 128 ∷ 0 ∷ []) 13 3
  -- a number of two bytes, the lowest of three and the highest, read and written
  pub two_bytes : number_at (130 ∷ 3 ∷ []) 0 ≡ Ok (386, 2)
  pub two_written : bytes_of 386 ≡ 130 ∷ 3 ∷ []
  pub lowest_three : number_at (128 ∷ 128 ∷ 1 ∷ []) 0 ≡ Ok (16384, 3)
  pub lowest_written : bytes_of 16384 ≡ 128 ∷ 128 ∷ 1 ∷ []
  pub highest_three : number_at (255 ∷ 255 ∷ 127 ∷ []) 0 ≡ Ok (2097151, 3)
  pub highest_written : bytes_of 2097151 ≡ 255 ∷ 255 ∷ 127 ∷ []
  -- 80 80 alone; 80 80 00, from its start; 80 80 80
  pub cut_number : number_at (128 ∷ 128 ∷ []) 0 ≡ refused 8 2
  pub long_number : number_at (7 ∷ 128 ∷ 128 ∷ 0 ∷ []) 1 ≡ refused 9 1
  pub unended_number : number_at (128 ∷ 128 ∷ 128 ∷ []) 0 ≡ refused 9 0
  -- a fault at a spare, read and written
  pub spare_read : read_map (2 ∷ 2 ∷ 1 ∷ 0 ∷ 1 ∷ []) zeros
      ≡ (Ok (record { rows = 2; columns = 2; count = 1 }), grid_of 2 2 (1 ∷ []))
  pub spare_written : write_map 2 2 (grid_of 2 2 (1 ∷ [])) (9 ∷ 9 ∷ 9 ∷ 9 ∷ 9 ∷ []) ≡ (Ok 5, 2 ∷ 2 ∷ 1 ∷ 0 ∷ 1 ∷ [])
  -- 4 of a plan to be written, before 14: direction 5; a direction at a spare. 1, 2 and 4
  -- before 21, 21 before 14. 3 of a map, before 14.
  pub direction_5_written : write_plan 2 2 (directions_of (fault 33 5 ∷ [])) 0 [] ≡ (Err (refusal 4 33 0), [])
  pub spare_directed : write_plan 2 2 (directions_of (fault 1 1 ∷ [])) 0 [] ≡ (Err (refusal 4 1 0), [])
  pub size_before_trials : write_plan 31 2 zeros 2097152 [] ≡ (Err (refusal 1 0 0), [])
  pub buffer_before_trials : write_plan 2 2 [] 2097152 [] ≡ (Err (refusal 2 0 0), [])
  pub direction_before_trials : write_plan 2 2 (directions_of (fault 33 5 ∷ [])) 2097152 [] ≡ (Err (refusal 4 33 0), [])
  pub trials_before_room : write_plan 2 2 south_path 2097152 [] ≡ (Err (refusal 21 0 0), [])
  pub mark_before_room : write_map 2 2 zeros [] ≡ (Err (refusal 3 0 0), [])
  -- a plan written, with the bytes after it kept, and read back; file buffers that are one byte too short
  pub plan_written : write_plan 2 2 south_path 2097151 (9 ∷ 9 ∷ 9 ∷ 9 ∷ 9 ∷ 9 ∷ 9 ∷ 9 ∷ 9 ∷ 9 ∷ 9 ∷ [])
      ≡ (Ok 9, 2 ∷ 2 ∷ 1 ∷ 1 ∷ 1 ∷ 1 ∷ 255 ∷ 255 ∷ 127 ∷ 9 ∷ 9 ∷ [])
  pub plan_again : read_plan (write_plan 2 2 south_path 2097151 (9 ∷ 9 ∷ 9 ∷ 9 ∷ 9 ∷ 9 ∷ 9 ∷ 9 ∷ 9 ∷ [])).1 zeros
      ≡ (Ok (record { rows = 2; columns = 2; count = 1 }, 2097151), south_path)
  pub trials_too_long : write_plan 2 2 south_path 128 (9 ∷ 9 ∷ 9 ∷ 9 ∷ 9 ∷ 9 ∷ 9 ∷ [])
      ≡ (Err (refusal 14 8 0), 9 ∷ 9 ∷ 9 ∷ 9 ∷ 9 ∷ 9 ∷ 9 ∷ [])
  pub too_short : write_map 2 2 (grid_of 2 2 (33 ∷ [])) (9 ∷ 9 ∷ 9 ∷ 9 ∷ []) ≡ (Err (refusal 14 5 0), 9 ∷ 9 ∷ 9 ∷ 9 ∷ [])

-- the check of 2 x 2 and of 3 x 3 with these faults and their directions
abbrev pub positions_of : List Fault → List ℕ
positions_of [] = []
positions_of (f ∷ fs) = f.position ∷ positions_of fs

abbrev pub check_two : List Fault → Verdict
check_two fs = check_plan 2 2 (grid_of 2 2 (positions_of fs)) (directions_of fs)

abbrev pub check_three : List Fault → Verdict
check_three fs = check_plan 3 3 (grid_of 3 3 (positions_of fs)) (directions_of fs)

pub record PlanRefusals : Type 0 where
  -- 30 is accepted, 31 and 0 are not; a size before a length; a buffer of no element; a corner marked healthy; no mark 2 at a processor
  pub size_30 : well_formed 30 30 (grid_of 30 30 []) ≡ Ok tt
  pub rows_31 : well_formed 31 2 [] ≡ refuse 1 0 0
  pub columns_0 : well_formed 2 0 zeros ≡ refuse 1 0 0
  pub short_buffer : well_formed 2 2 [] ≡ refuse 2 0 0
  pub corner_marked : well_formed 2 2 (grid_of 2 3 []) ≡ refuse 3 3 0
  pub inner_unmarked : well_formed 2 2 (set (grid_of 2 2 []) 33 2) ≡ refuse 3 33 0
  -- 3 before 4, though the wrong direction stands lower
  pub mark_first : check_plan 2 2 (set (grid_of 2 2 []) 3 1) (directions_of (fault 1 1 ∷ [])) ≡ refuse 3 3 0
  -- 4: none at a fault; above 4 at one; where no fault is
  pub no_direction : check_two (fault 33 1 ∷ fault 66 0 ∷ []) ≡ refuse 4 66 0
  pub direction_above : check_two (fault 33 5 ∷ []) ≡ refuse 4 33 0
  pub healthy_directed : check_plan 2 2 (grid_of 2 2 []) (directions_of (fault 33 1 ∷ [])) ≡ refuse 4 33 0
  -- a plan; near-misses down and across, with either path first; opposite neighbours that run apart; a meeting at (1, 2)
  pub south_east : check_two (fault 33 1 ∷ fault 66 3 ∷ []) ≡ Ok tt
  pub south_north : check_two (fault 33 1 ∷ fault 66 2 ∷ []) ≡ refuse 7 33 66
  pub east_west : check_two (fault 33 3 ∷ fault 66 4 ∷ []) ≡ refuse 7 33 66
  pub west_east : check_two (fault 34 4 ∷ fault 65 3 ∷ []) ≡ refuse 7 34 65
  pub north_south : check_two (fault 33 2 ∷ fault 66 1 ∷ []) ≡ Ok tt
  pub east_above_west : check_two (fault 33 3 ∷ fault 65 4 ∷ []) ≡ Ok tt
  pub east_north : check_two (fault 33 3 ∷ fault 66 2 ∷ []) ≡ refuse 6 33 66
  -- south from (1,1) runs over the fault (2,1), which is 5 although the two paths meet as well
  pub closed_first : check_two (fault 33 1 ∷ fault 65 1 ∷ []) ≡ refuse 5 33 0
  -- the first pair, though a later one meets; a pair that is not of neighbours in the list
  pub near_miss_earlier : check_three (fault 33 1 ∷ fault 66 2 ∷ fault 99 4 ∷ []) ≡ refuse 7 33 66
  pub far_pair : check_three (fault 33 1 ∷ fault 34 3 ∷ fault 67 2 ∷ fault 98 4 ∷ []) ≡ refuse 6 33 98
