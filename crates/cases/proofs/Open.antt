-- Every definition of the specs, opened: under `unfolding opened` a test computes with them all. Made by tools/computed_cases.py. Assumes nothing.
use mathlib.Core.Bool.{true}
use lib.Dec.{T}
use lib.Ieee as Ieee
use Rattle.big_endian.specs.Big as BigEndian-as-Big
use Rattle.big_endian.specs.Buffer as BigEndian-as-Buffer
use Rattle.binary64.specs.Fma as Binary64-as-Fma
use Rattle.binary64.specs.Step as Binary64-as-Step
use Rattle.binary64.specs.Value as Binary64-as-Value
use Rattle.units.specs.Physical as Units-as-Physical
use Rattle.gds_format.specs.Decode as GdsFormat-as-Decode
use Rattle.gds_format.specs.Real8 as GdsFormat-as-Real8
use Rattle.conversion.specs.Array as Conversion-as-Array
use Rattle.conversion.specs.Convert as Conversion-as-Convert
use Rattle.conversion.specs.Entry as Conversion-as-Entry
use Rattle.conversion.specs.code.Fold as Conversion-as-Fold
use Rattle.conversion.specs.Made as Conversion-as-Made
use Rattle.conversion.specs.Points as Conversion-as-Points
use Rattle.conversion.specs.Policy as Conversion-as-Policy
use Rattle.conversion.specs.Side as Conversion-as-Side
use Rattle.bounds.specs.Range as Bounds-as-Range
use Rattle.survey.specs.Places as Survey-as-Places
use Rattle.parsing.specs.Parse as Parsing-as-Parse
use Rattle.sheet.specs.Blocks as Sheet-as-Blocks
use Rattle.sheet.specs.Cell as Sheet-as-Cell
use Rattle.sheet.specs.Element as Sheet-as-Element
use Rattle.sheet.specs.Encode as Sheet-as-Encode
use Rattle.sheet.specs.Form as Sheet-as-Form
use Rattle.sheet.specs.Library as Sheet-as-Library
use Rattle.stream.specs.Drawn as Stream-as-Drawn
use Rattle.stream.specs.Library as Stream-as-Library
use Rattle.stream.specs.Read as Stream-as-Read
use Rattle.stream.specs.Record as Stream-as-Record
use Rattle.stream.specs.Records as Stream-as-Records
use Rattle.stream.specs.Strings as Stream-as-Strings
use Rattle.cell.specs.Call as Cell-as-Call
use Rattle.cell.specs.Cell as Cell-as-Cell
use Rattle.cell.specs.Names as Cell-as-Names
use Rattle.cell.specs.Stamps as Cell-as-Stamps
use Rattle.cell.specs.Write as Cell-as-Write
use Rattle.library.specs.Library as Library-as-Library
use Rattle.reading.specs.Box as Reading-as-Box
use Rattle.reading.specs.Cell as Reading-as-Cell
use Rattle.reading.specs.Limits as Reading-as-Limits
use Rattle.reading.specs.Read as Reading-as-Read

unfoldable pub opened : T true
unfolding BigEndian-as-Big.number_at BigEndian-as-Buffer.over BigEndian-as-Buffer.splice Binary64-as-Fma.times Binary64-as-Fma.plus Binary64-as-Fma.fma Binary64-as-Step.ordered_bits Binary64-as-Step.ordered Binary64-as-Step.one_step Binary64-as-Step.nearest_double Binary64-as-Value.size_of Binary64-as-Value.negative Binary64-as-Value.abs Binary64-as-Value.scaled Binary64-as-Value.floor_div Binary64-as-Value.floor_of Binary64-as-Value.ceil_of Binary64-as-Value.round_away Units-as-Physical.physical Units-as-Physical.passed GdsFormat-as-Decode.double_near GdsFormat-as-Decode.double_of GdsFormat-as-Real8.real8_value GdsFormat-as-Real8.floor_mod GdsFormat-as-Real8.encode_magnitude GdsFormat-as-Real8.encoding GdsFormat-as-Real8.real8 Conversion-as-Array.physical_point Conversion-as-Array.physical_spacing Conversion-as-Array.turned Conversion-as-Array.write_physical Conversion-as-Array.write_endpoint Conversion-as-Array.convert_array Conversion-as-Convert.on_grid Conversion-as-Convert.rounded Conversion-as-Convert.ranged Conversion-as-Convert.grid_value Conversion-as-Convert.database_value Conversion-as-Convert.difference Conversion-as-Convert.counts Conversion-as-Convert.deviations Conversion-as-Convert.convert_physical Conversion-as-Convert.physical_value Conversion-as-Convert.convert_by Conversion-as-Convert.convert_unit Conversion-as-Convert.array_endpoint Conversion-as-Entry.first_entry Conversion-as-Entry.takes Conversion-as-Entry.entry_of Conversion-as-Entry.entry_bytes Conversion-as-Entry.greatest_from Conversion-as-Fold.noted Conversion-as-Fold.noted_all Conversion-as-Fold.run Conversion-as-Made.◌>>=◌ Conversion-as-Made.◌>>◌ Conversion-as-Made.need Conversion-as-Points.write_point Conversion-as-Points.write_points Conversion-as-Points.write_length Conversion-as-Policy.policy_of Conversion-as-Policy.caller_policy Conversion-as-Side.error_of Conversion-as-Side.rust_deviations Conversion-as-Side.rust_takes Conversion-as-Side.rust_entry_of Conversion-as-Side.rust_greatest Bounds-as-Range.range_of Bounds-as-Range.convert_bounds Survey-as-Places.placed_at Survey-as-Places.count_of Survey-as-Places.counted Survey-as-Places.survey_of Survey-as-Places.survey_pitch Parsing-as-Parse.items Parsing-as-Parse.times Sheet-as-Blocks.block_of Sheet-as-Blocks.chained Sheet-as-Blocks.pairs_fit Sheet-as-Blocks.blocks_from Sheet-as-Cell.elements_of Sheet-as-Cell.cell_of Sheet-as-Element.property Sheet-as-Element.head_form Sheet-as-Element.shape_form Sheet-as-Element.path_type_form Sheet-as-Element.path_form Sheet-as-Element.text_form Sheet-as-Element.reference_form Sheet-as-Element.box_form Sheet-as-Element.body_form Sheet-as-Element.element_form Sheet-as-Element.head_of Sheet-as-Element.element_of Sheet-as-Encode.head_block Sheet-as-Encode.shape_bytes Sheet-as-Encode.path_bytes Sheet-as-Encode.text_bytes Sheet-as-Encode.reference_bytes Sheet-as-Encode.box_bytes Sheet-as-Encode.element_block Sheet-as-Encode.pairs_bytes Sheet-as-Encode.blocks_sheet Sheet-as-Encode.cell_sheet Sheet-as-Form.num Sheet-as-Form.code Sheet-as-Form.flag Sheet-as-Form.double Sheet-as-Form.string Sheet-as-Form.counted Sheet-as-Form.optional Sheet-as-Form.long Sheet-as-Form.coordinate_of Sheet-as-Form.coordinate Sheet-as-Form.point Sheet-as-Form.spacing_of Sheet-as-Form.spacing Sheet-as-Library.library_head_form Sheet-as-Library.library_head_of Stream-as-Drawn.reference_drawn Stream-as-Library.file_head_records Stream-as-Read.each Stream-as-Read.one_point Stream-as-Read.three_points Stream-as-Read.reflection_from Stream-as-Read.some_of Stream-as-Read.step_of Stream-as-Read.item Stream-as-Read.optional Stream-as-Read.after_strans Stream-as-Read.strans Stream-as-Read.axis_step Stream-as-Read.point_step Stream-as-Read.shape_body Stream-as-Read.path_body Stream-as-Read.text_body Stream-as-Read.sref_body Stream-as-Read.aref_body Stream-as-Read.body_after Stream-as-Read.property_or_end Stream-as-Read.properties_f Stream-as-Read.properties Stream-as-Read.element_after Stream-as-Read.element_from Stream-as-Read.elements_f Stream-as-Read.elements Stream-as-Read.structure Stream-as-Read.read_structure Stream-as-Read.structure_of Stream-as-Record.manual Stream-as-Record.of_manual Stream-as-Record.record_bytes Stream-as-Record.stream_bytes Stream-as-Record.next_record Stream-as-Record.run_f Stream-as-Record.run_of Stream-as-Records.opt Stream-as-Records.strans_records Stream-as-Records.shape_records Stream-as-Records.path_records Stream-as-Records.text_records Stream-as-Records.sref_records Stream-as-Records.aref_records Stream-as-Records.tail_records Stream-as-Records.with_options Stream-as-Records.structure_records Stream-as-Records.element_bytes Stream-as-Records.elements_bytes Stream-as-Strings.padded Stream-as-Strings.unpadded Stream-as-Strings.trimmed Cell-as-Call.checked_call Cell-as-Cell.write_one Cell-as-Cell.write_block Cell-as-Cell.write_blocks Cell-as-Cell.write_headed Cell-as-Cell.write_sheet Cell-as-Cell.after_caller Cell-as-Cell.cell_structure Cell-as-Cell.fitting Cell-as-Cell.write_cell Cell-as-Names.name_byte Cell-as-Names.is_name Cell-as-Stamps.days_in Cell-as-Stamps.is_date Cell-as-Stamps.stamp_fits Cell-as-Stamps.stamps_fit Cell-as-Write.layer_and_type Cell-as-Write.attribute_and_length Cell-as-Write.write_properties Cell-as-Write.encodable Cell-as-Write.write_real Cell-as-Write.write_magnification Cell-as-Write.write_angle Cell-as-Write.strans_of Cell-as-Write.write_transform Cell-as-Write.closed Cell-as-Write.in_unit Cell-as-Write.write_shape Cell-as-Write.write_polygon Cell-as-Write.write_node Cell-as-Write.write_path Cell-as-Write.write_text Cell-as-Write.write_sref Cell-as-Write.write_aref Cell-as-Write.write_reference Cell-as-Write.write_box Cell-as-Write.write_body Cell-as-Write.write_element Library-as-Library.write_one Library-as-Library.write_cells Library-as-Library.file_head_of Library-as-Library.write_named Library-as-Library.write_headed Library-as-Library.write_library_sheet Library-as-Library.after_caller Library-as-Library.library_file Library-as-Library.cells_bytes Library-as-Library.file_bytes Library-as-Library.report_from Library-as-Library.entries_in Library-as-Library.greatest_in Library-as-Library.fitting Library-as-Library.write_library Reading-as-Box.nth_point Reading-as-Box.is_box Reading-as-Cell.aref_read Reading-as-Limits.real_limit Reading-as-Limits.points_limit Reading-as-Limits.record_limit Reading-as-Limits.step_limit Reading-as-Read.measure_structure Reading-as-Read.read_sheet Ieee.of_bits Ieee.to_bits Ieee.mul Ieee.div Ieee.sub Ieee.neg Ieee.lt Ieee.le Ieee.eq Ieee.of_int Ieee.round Ieee.sum Ieee.add Ieee.size
opened = tt
