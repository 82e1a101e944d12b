-- The first refusal, or the length of the records. Assumes nothing.
use mathlib.Core.Path.{refl, sym}
use Rattle.std.proofs.lemmas.Result.{err_from_is_err_and}
use Rattle.steps.proofs.ReadyLaws.{measure-stopped, measure-ready}
use Rattle.transform.proofs.StransLaws.{strans-short}
use Rattle.text.specs.code.Text.{text_bytes}
use Rattle.text.proofs.TextLaws.{ready-short, length-text-of}
use Rattle.text.proofs.measure_text.Goals as goal

pub records_length-requires : goal.records_length-requires
records_length-requires c =
    let a = c.args in
    let v = c.in_ok-values in
    record {
      transform_bound = rw c.length-transform.ensures (strans-short v.values.strans);
      string_bound = rw c.string_length.ensures.0 (ready-short a.b.now a.text c.requires.text_in.string-in a.converter.policy a.converter.d a.entry v.values v.ensures);
    }

pub returns-in_err-values : goal.returns-in_err-values
returns-in_err-values c =
    let e = err_from_is_err_and c.from_residual.result c.from_residual.ensures.1 in
    rw (e.1, e.2) (measure-stopped c.args.entry _ _ c.in_err-values.ensures text_bytes _ refl)

pub returns : goal.returns
returns c =
    let a = c.args in
    let v = c.in_ok-values in
    measure-ready a.entry _ _ v.ensures text_bytes _ _ _ refl
    (rw (c.records_length.ensures, c.length-transform.ensures, c.string_length.ensures.0) (sym (length-text-of a.b.now a.text c.requires.text_in.string-in v.values.strans v.values.point)))
