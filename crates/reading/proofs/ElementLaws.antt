-- Elements that were read are canonical. Assumes nothing.
use mathlib.Core.Path.{◌≡◌, refl, sym, ap, ◌∙◌}
use mathlib.Core.Bool.{true}
use mathlib.Core.Option.{Option, none, some}
use mathlib.Core.List.{List, [], ◌∷◌}
use Prim.Native.Nat.{ℕ, suc, ◌+◌, ◌≤◌, ◌<◌}
use native.Mathlib.Omega.{arith}
use borrow.Author.Tests.{le-leb, lt-ltb}
use lib.Dec.{lit<}
use lib.ListN.{length}
use lib.IntN.{ℤ}
use lib.Ieee.Bits.{is_true as on}
use Rattle.refusal.specs.declared.Refusal.TheVariants as R
use Rattle.parsing.specs.All.{All, done, more, Opt, absent, present}
use Rattle.conversion.specs.Made.{pure, ◌>>◌}
use Rattle.conversion.proofs.MadeLaws.{need-on, then-pure, both-pass}
use Rattle.sheet.specs.Element as S
use Rattle.sheet.specs.Blocks.{max_pairs}
use Rattle.sheet.proofs.Fine.{FineProperty}
use Rattle.stream.specs.Record.{ELFLAGS, PLEX, PROPATTR}
use Rattle.stream.specs.Records.{empty_record, word_record, bits_record, long_record, option_records}
use Rattle.stream.specs.Strings.{unpadded}
use Rattle.stream.specs.Structure.{Property, SaidBody, Said}
use Rattle.stream.specs.Structure as D
use Rattle.stream.specs.Drawn.{properties_drawn}
use Rattle.stream.proofs.Fit.{Word}
use Rattle.stream.proofs.AppendLaws.{code_of}
use Rattle.stream.proofs.StringLaws.{padded-unpadded}
use Rattle.stream.proofs.ReadLaws.{word_back}
use Rattle.stream.proofs.Admitted.{AdmittedTail, end, next}
use Rattle.cell.specs.Limits.{within, min_attribute, max_attribute, max_value_length, max_flags}
use Rattle.cell.specs.Write.{flags_fit, attribute_and_length, write_properties, write_element}
use Rattle.cell.proofs.ElementLaws.{within-hi, word_below}
use Rattle.reading.specs.Limits.{max_properties, record_limit, refusal_in, sheet_limits}
use Rattle.reading.specs.Cell.{properties_read}
use Rattle.reading.proofs.Kept.{Limited, KeptBody, Attribute, KeptProperty, KeptElement}
use Rattle.reading.proofs.Kept as K
use Rattle.reading.proofs.ItemLaws as I
use Rattle.reading.proofs.KeptLaws.{opt_same}
use Rattle.reading.proofs.RealLaws.{opt-all, opt-at, Passes}
use Rattle.reading.proofs.Canon.{CanonBody, CanonElement}
use Rattle.reading.proofs.BodyLaws.{need-none, limited-passes, string-fine, boundary-canon, node-canon, path-canon, text-canon}
use Rattle.reading.proofs.ReferenceLaws.{sref-canon, aref-canon}
use Rattle.reading.proofs.BoxLaws.{box-canon}

body-canon : (w : SaidBody) → KeptBody w → CanonBody w
body-canon (D.boundary e) (K.boundary h) = boundary-canon e h
body-canon (D.path e) (K.path h) = path-canon e h
body-canon (D.text e) (K.text h) = text-canon e h
body-canon (D.node e) (K.node h) = node-canon e h
body-canon (D.sref e) (K.sref h) = sref-canon e h
body-canon (D.aref e) (K.aref h) = aref-canon e h
body-canon (D.box e) (K.box h) = box-canon e h

-- ---- flags and plex numbers

flags-fit : (o : Option ℕ) → Opt (Limited max_flags) o → flags_fit o ≡ true
flags-fit none absent = refl
flags-fit (some n) (present h) = le-leb n max_flags h.most

-- PLEX has no limit
options-pass : (kind : ℕ) (f : Option ℕ) (p : Option ℤ) → Opt (Limited max_flags) f → All (Passes kind 0) (option_records f p [])
unfolding record_limit
options-pass kind f p h =
    opt-all (bits_record ELFLAGS) f _ (λ n q. limited-passes I.flags kind n (opt-at h q)) (opt-all (long_record PLEX) p [] (λ z q. refl) done)

-- ---- properties

attributed : (a n : ℕ) → Attribute a → n ≤ max_value_length → attribute_and_length a n ≡ pure tt
unfolding attribute_and_length
attributed a n h k = sym (both-pass _ _ R.Attribute R.StringLength (on _ h) (le-leb n max_value_length k))

properties-write : (qs : List Property) → All KeptProperty qs → write_properties (properties_read qs) ≡ pure qs
unfolding write_properties ◌>>◌
properties-write [] done = refl
properties-write (q ∷ qs) (more h hs) =
    then-pure _ (attributed q.attribute _ h.attribute h.value.short)
    (then-pure _ (properties-write qs hs) (ap (λ (s : List ℕ). pure (record { attribute = q.attribute; value = s } ∷ qs)) (padded-unpadded q.value h.value.even.even)))

attribute-word : (n : ℕ) → Attribute n → Word n
attribute-word n t = word_below max_attribute n (lit< tt) (within-hi min_attribute n max_attribute t)

properties-fine : (qs : List Property) → All KeptProperty qs → All FineProperty (properties_read qs)
properties-fine [] done = done
properties-fine (q ∷ qs) (more h hs) = more (record { attribute = attribute-word q.attribute h.attribute; value = string-fine q.value h.value.even }) (properties-fine qs hs)

properties-count : (qs : List Property) → length (properties_read qs) ≡ length qs
properties-count [] = refl
properties-count (q ∷ qs) = ap suc (properties-count qs)

attribute-passes : (kind i n : ℕ) → i < max_properties → Attribute n → Passes kind i (word_record PROPATTR n)
unfolding record_limit
attribute-passes kind i n l t =
    ap refusal_in (sym (both-pass _ _ R.Form R.Attribute (lt-ltb i max_properties l) (ap (λ (a : ℕ). within min_attribute a max_attribute) (word_back n (attribute-word n t)) ∙ on _ t)))

tail-admitted : (kind i : ℕ) (qs : List Property) → All KeptProperty qs → i + length qs ≤ max_properties → AdmittedTail sheet_limits kind i qs
unfolding record_limit
tail-admitted kind i [] done l = end refl
tail-admitted kind i (q ∷ qs) (more h hs) l =
    next (attribute-passes kind i q.attribute (omega arith) h.attribute) (need-none _ R.StringLength (le-leb (length (unpadded q.value)) max_value_length h.value.short))
    (tail-admitted kind (suc i) qs hs (omega arith))

-- ---- an element

first_passes : (w : SaidBody) (i : ℕ) → suc i < max_pairs → Passes (code_of w) i (empty_record (code_of w))
unfolding record_limit
first_passes (D.boundary e) i h = need-none _ R.Pairs (lt-ltb (suc i) max_pairs h)
first_passes (D.path e) i h = need-none _ R.Pairs (lt-ltb (suc i) max_pairs h)
first_passes (D.text e) i h = need-none _ R.Pairs (lt-ltb (suc i) max_pairs h)
first_passes (D.node e) i h = need-none _ R.Pairs (lt-ltb (suc i) max_pairs h)
first_passes (D.sref e) i h = need-none _ R.Pairs (lt-ltb (suc i) max_pairs h)
first_passes (D.aref e) i h = need-none _ R.Pairs (lt-ltb (suc i) max_pairs h)
first_passes (D.box e) i h = need-none _ R.Pairs (lt-ltb (suc i) max_pairs h)

pub element-canon : (e : Said) → KeptElement e → CanonElement e
unfolding write_element
element-canon e h =
    let b = body-canon e.body h.body in
    record {
      put = record { flags = e.flags; plex = e.plex; body = b.put; properties = e.properties };
      writes = need-on _ R.Flags _ (flags-fit e.flags h.flags) ∙ then-pure _ b.writes (then-pure _ (properties-write e.properties h.properties) refl);
      drawn = ap (λ (w : _). record { flags = e.flags; plex = e.plex; body = w; properties = properties_drawn e.properties }) b.drawn;
      again = ap (λ (w : S.Body). record { flags = e.flags; plex = e.plex; body = w; properties = properties_read e.properties }) b.again;
      admitted = λ i l. record {
        first = first_passes b.put i l;
        options = options-pass _ e.flags e.plex h.flags;
        body = b.admitted;
        steps = b.steps;
        tail = tail-admitted _ 0 e.properties h.properties (omega (arith, h.count));
      };
      fine = record {
        flags = opt_same (λ n l. l.word) e.flags h.flags;
        plex = h.plex;
        body = b.fine;
        properties = record { each = properties-fine e.properties h.properties; count = omega (arith, properties-count e.properties, h.count) };
      };
    }
