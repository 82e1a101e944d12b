-- The numbers of a report entry's field and axis (document 01, "Result three"). Assumes nothing.
use Rattle.std.specs.Prelude.{ℕ}

-- ---- fields: "0 point, 1 width, 2 begin, 3 end, 4 origin, 5 and 6 turned column and row spacing, 7 and 8 endpoints"

abbrev pub point_field : ℕ
point_field = 0

abbrev pub width_field : ℕ
width_field = 1

abbrev pub begin_field : ℕ
begin_field = 2

abbrev pub end_field : ℕ
end_field = 3

abbrev pub origin_field : ℕ
origin_field = 4

abbrev pub column_spacing_field : ℕ
column_spacing_field = 5

abbrev pub row_spacing_field : ℕ
row_spacing_field = 6

abbrev pub column_endpoint_field : ℕ
column_endpoint_field = 7

abbrev pub row_endpoint_field : ℕ
row_endpoint_field = 8

-- ---- axes: "0 x, 1 y, 2 none"

abbrev pub x_axis : ℕ
x_axis = 0

abbrev pub y_axis : ℕ
y_axis = 1

abbrev pub no_axis : ℕ
no_axis = 2
