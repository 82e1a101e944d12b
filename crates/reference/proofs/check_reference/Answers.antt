-- `reference::check_reference` meets its contract, check by check. Assumes nothing.
use mathlib.Core.Logic.{inl, inr}
use mathlib.Core.Path.{◌≡◌, sym, ◌∙◌}
use mathlib.Core.Bool.{true, false, ◌&&◌}
use Rattle.cell.specs.Limits.{within, max_col_row}
use Rattle.reference.proofs.CheckLaws.{and-left, and-on, name-stops, counts-stop, column-lacks, row-lacks, all_pass}
use Rattle.reference.proofs.check_reference.Goals.{then-lacks_spacing-via-then-lacks_spacing, then-lacks_spacing-via-else-lacks_spacing+then-lacks_spacing-2}
use Rattle.reference.proofs.check_reference.Goals as goal

pub returns-then-not-validate_structure_name : goal.returns-then-not-validate_structure_name
returns-then-not-validate_structure_name c = name-stops c.args.b.now c.args.s c.requires.name_in (cc)

pub returns-then-not-rows : goal.returns-then-not-rows
returns-then-not-rows c =
    let a = c.args in
    let m = within 1 a.s.columns max_col_row in
    let n = within 1 a.s.rows max_col_row in
    let u = c.within-columns.ensures in
    let v = c.within-rows.ensures in
    let h : m && n ≡ false = elim c.if-not-rows.either [ inl p ↦ and-on m n false (sym u ∙ p.0) (sym v ∙ p.1) | inr p ↦ and-left m n (sym u ∙ p) ] in
    counts-stop a.b.now a.s c.requires.name_in (cc) h

pub returns-then-lacks_spacing : goal.returns-then-lacks_spacing
returns-then-lacks_spacing c =
    let a = c.args in
    let h = and-on (within 1 a.s.columns max_col_row) (within 1 a.s.rows max_col_row) true (cc) (cc) in
    elim c.then-lacks_spacing.branch [
      | then-lacks_spacing-via-then-lacks_spacing w ↦ column-lacks a.b.now a.s c.requires.name_in (cc) h (cc)
      | then-lacks_spacing-via-else-lacks_spacing+then-lacks_spacing-2 w ↦ row-lacks a.b.now a.s c.requires.name_in (cc) h (cc) (cc)
    ]

pub returns : goal.returns
returns c =
    let a = c.args in
    let h = and-on (within 1 a.s.columns max_col_row) (within 1 a.s.rows max_col_row) true (cc) (cc) in
    all_pass a.b.now a.s c.requires.name_in (cc) h (cc) (cc)
