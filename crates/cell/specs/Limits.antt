-- The limits of sheet and structure (document 01, "Result one", the paragraph that begins "Transform", and "Who can cause which refusal"; document 02, requests 5 and 6; write/validation.rs). Assumes nothing.
use Rattle.std.specs.Prelude.{Bool, ◌&&◌, ℕ, leb}

-- n is from lo to hi
abbrev pub within : ℕ → ℕ → ℕ → Bool
within lo n hi = leb lo n && leb n hi

-- "Points: polygon 4 to 8,191, path 2 to 8,191, node 1 to `MAX_NODE_POINTS` (the manual's 50)."
abbrev pub min_polygon_points : ℕ
min_polygon_points = 4

abbrev pub min_path_points : ℕ
min_path_points = 2

abbrev pub min_node_points : ℕ
min_node_points = 1

abbrev pub max_points : ℕ
max_points = 8191

abbrev pub max_node_points : ℕ
max_node_points = 50

-- "Layer and type at most 255", and so the text type ("text types above 255 .. Such a text type now gives 9")
abbrev pub max_layer : ℕ
max_layer = 255

abbrev pub max_data_type : ℕ
max_data_type = 255

-- "Text at most 512 bytes"
abbrev pub max_string_length : ℕ
max_string_length = 512

-- "27 attribute outside 1 to 127"
abbrev pub min_attribute : ℕ
min_attribute = 1

abbrev pub max_attribute : ℕ
max_attribute = 127

-- "A property value above 126 bytes gives 10 in place of the old limit of 65,530."
abbrev pub max_value_length : ℕ
max_value_length = 126

-- "Names: 1 to 32"
abbrev pub max_name_length : ℕ
max_name_length = 32

-- "11 columns or rows outside 1 to 32,767"
abbrev pub max_col_row : ℕ
max_col_row = 32767

-- "26 flags above 3"
abbrev pub max_flags : ℕ
max_flags = 3

-- "3 sheet over 16,777,216 bytes"
abbrev pub max_sheet_length : ℕ
max_sheet_length = 16777216
