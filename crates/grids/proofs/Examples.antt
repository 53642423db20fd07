-- Texts read and written, computed.
-- Assumes nothing.
use mathlib.Core.Path.{refl}
use Rattle.array.specs.Buffer.{span}
use Rattle.grids.specs.Text.{text}
use Rattle.grids.specs.Reading.{lines_of, trim, take_row, take_line, take_lines, first_wrong, rows_test, grid_of, read_rows, read_text}
use Rattle.grids.specs.Examples.{TextExamples}

pub text_examples : TextExamples
unfolding lines_of trim take_row take_line take_lines first_wrong rows_test grid_of read_rows read_text span text
text_examples =
    record {
      smallest = refl;
      edited = refl;
      one_column = refl;
      one_row = refl;
      dead = refl;
      no_row = refl;
      two_rows = refl;
      blank_between = refl;
      narrow = refl;
      longer = refl;
      spare_missing = refl;
      corner_marked = refl;
      unknown_mark = refl;
      dead_spare = refl;
      dead_right = refl;
      dead_corner = refl;
      wide = refl;
      many = refl;
      first_in_order = refl;
      grid_read = refl;
      grid_kept = refl;
      dead_read = refl;
      dead_written = refl;
    }
