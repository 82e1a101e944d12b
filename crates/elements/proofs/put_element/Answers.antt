-- `elements::put_element` meets its contract: the parts behind the room of the options, then the options behind the first record. Assumes nothing.
use Rattle.elements.proofs.PutLaws.{places-room, kind-in, inside, parts-accepted, all_fit, options-room, element-put}
use Rattle.elements.proofs.OptionLaws.{options-are}
use Rattle.block_places.proofs.PlacesLaws.{shift_is, options-in}
use Rattle.conversion.specs.declared.Entry.{Entry}
use native.Mathlib.Omega.{arith}
use Prim.Native.Nat.{◌≤◌}
use lib.ListN.{length, length-take, length-drop}
use mathlib.Core.Path.{ap}
use borrow.Author.Rules.{rules}
use Rattle.elements.proofs.put_element.Goals as goal

pub element_places-element-requires : goal.element_places-element-requires
element_places-element-requires c =
    places-room c.args.converter.policy c.args.converter.d c.args.b.now c.args.part.now c.requires

pub block_from-rest-requires : goal.block_from-rest-requires
block_from-rest-requires c =
    let i = options-in c.args.b.now (let r = places-room c.args.converter.policy c.args.converter.d c.args.b.now c.args.part.now c.requires in omega arith) in
    let e = shift_is c.args.b.now (options-are c.args.b.now c.element_places-element.ensures) in
    omega arith

pub plain_kind-kind-requires : goal.plain_kind-kind-requires
plain_kind-kind-requires c =
    kind-in c.args.converter.policy c.args.converter.d c.args.b.now c.args.part.now c.requires

pub slice_bounds-put_parts-count : goal.slice_bounds-put_parts-count
slice_bounds-put_parts-count c =
    let from_in : c.options_length-from.result ≤ length c.args.part.now = let l = all_fit c.args.converter.policy c.args.converter.d c.args.b.now c.args.part.now c.requires c.element_places-element.result c.element_places-element.ensures c.block_from-rest.ensures in let e = c.options_length-from.ensures.0 in omega arith in
    from_in

pub slice_bounds-put_parts-start : goal.slice_bounds-put_parts-start
slice_bounds-put_parts-start c =
    let from_in : c.options_length-from.result ≤ length c.args.part.now = let l = all_fit c.args.converter.policy c.args.converter.d c.args.b.now c.args.part.now c.requires c.element_places-element.result c.element_places-element.ensures c.block_from-rest.ensures in let e = c.options_length-from.ensures.0 in omega arith in
    let l = from_in in search rules

pub put_parts-written-requires : goal.put_parts-written-requires
put_parts-written-requires c =
    let l = all_fit c.args.converter.policy c.args.converter.d c.args.b.now c.args.part.now c.requires c.element_places-element.result c.element_places-element.ensures c.block_from-rest.ensures in
    let e = c.options_length-from.ensures.0 in
    let n = ap (λ (x : Entry). x.count) c.blank-blank.ensures in
    record { element_in = inside c.args.converter.policy c.args.converter.d c.args.b.now c.args.part.now c.requires c.element_places-element.result c.element_places-element.ensures c.block_from-rest.ensures; succeeds = parts-accepted c.args.converter.policy c.args.converter.d c.args.b.now c.args.part.now c.requires c.element_places-element.result c.element_places-element.ensures c.block_from-rest.ensures; spare = omega arith; place_in_bounds = simp (length-take, length-drop) (omega arith) }

pub put_options-requires : goal.put_options-requires
put_options-requires c =
    record { options_in_bounds = options-room c.args.converter.policy c.args.converter.d c.args.b.now c.args.part.now c.requires c.element_places-element.result c.element_places-element.ensures c.block_from-rest.ensures c.options_length-from.result c.options_length-from.ensures.0 c.put_parts-written.ensures }

pub returns : goal.returns
returns c =
    let k = c.plain_kind-kind in
    let b = c.blank-blank in
    element-put c.args.converter.policy c.args.converter.d c.args.b.now c.args.part.now c.requires c.element_places-element.result c.element_places-element.ensures c.block_from-rest.ensures c.options_length-from.result c.options_length-from.ensures.0 c.put_parts-written.ensures c.args.index k.result k.ensures b.ensures c.put_options.ensures
