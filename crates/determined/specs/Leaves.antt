-- Determined, one line for each public function: two answers, with the memory lent for them, that its promise permits for the same input
-- are equal. The functions on bytes, text, units, boxes, samples and descriptions, and the writer. Of a part that is returned the bytes
-- are determined here, and the place is by its lifetime. Assumes nothing.
use Rattle.std.specs.Prelude.{ℕ, ◌+◌, ◌-◌, ◌*◌, ◌^◌, ◌<◌, ◌≤◌, min, ◌≡◌, refl, Bool, Option, List, [], ◌++◌, length, get_or, set, drop, replicate}
use Rattle.std.proofs.Common.{sym, ◌∙◌}
use Rattle.std.proofs.lemmas.List.Edits.{sets}
use Rattle.laws.specs.Exactly.{Determines, determined, equation, determined-by-two}
use Rattle.laws.specs.Region.{part}
use Rattle.octets.specs.Be.{u8_at, u16_at, u24_at, u32_at, be_at, be_bytes}
use Rattle.octets.specs.Same as O
use Rattle.paper.specs.Limits.{parts_most, sample_most}
use Rattle.paper.specs.declared.Refusal.{Refusal}
use Rattle.paper.specs.declared.Outcome.{Outcome}
use Rattle.paper.specs.Words.{number_of, kind_of}
use Rattle.text.specs.declared.Range.{Range}
use Rattle.text.specs.Chart.{within}
use Rattle.text.specs.Found as F
use Rattle.text.specs.Unicode as T
use Rattle.unit.specs.declared.Part.{Part}
use Rattle.unit.specs.declared.Unit as U
use Rattle.unit.specs.declared.Unit.TheVariants.{Part as PartUnit}
use Rattle.unit.specs.declared.Reading.{Reading}
use Rattle.unit.specs.Layout.{fields_of, ill_text, read_of, string_part, modifiers_part}
use Rattle.unit.specs.Head.{part_head, head_of}
use Rattle.unit.specs.Again.{bytes_of}
use Rattle.boxes.specs.declared.Stepped.{Stepped}
use Rattle.boxes.specs.Step.{step_of, contents_of}
use Rattle.finished.specs.Times.{late, marked_row, marked_used}
use Rattle.joining.specs.Joining.{together, string_of, sound}
use Rattle.sample.specs.declared.Place.{Place}
use Rattle.sample.specs.declared.Lengths.{Lengths}
use Rattle.sample.specs.Head.{Head, head_of as numbers_of, whole, alone}
use Rattle.sample.specs.Place as P
use Rattle.style.specs.Checked.{Checked}
use Rattle.style.specs.declared.Noted.{Noted}
use Rattle.style.specs.Record.{record_at, index_of, description_of}
use Rattle.style.specs.Book.{check_of, entry_of}
use Rattle.style.specs.Store.{moved, held, in_store, stays, repeated, forgotten, stored, After, left, noted}
use Rattle.writer.specs.Written.{Written}
use Rattle.writer.specs.declared.PartFound.{PartFound}
use Rattle.writer.specs.Cut.{strings}
use Rattle.writer.specs.Find.{found, found_in, sought}
use Rattle.writer.specs.Returns.{PutDown, block_type}
use Rattle.writer.specs.Write.{caption, written, described}
use Rattle.writer.specs.Write as W

-- an answer and one lent list
abbrev pub two : {A : Type 0} → (a : A) (l : List ℕ) → Determines (λ (x : A × List ℕ). (x.0 ≡ a) × (x.1 ≡ l))
two a l = determined-by-two (λ x. x.0) (λ x. x.1) (λ r m. (r, m)) (λ x. refl) a l

-- ---- paper
pub paper-number : (r : Refusal) → Determines (λ (n : ℕ). n ≡ number_of r)
paper-number r = equation (number_of r)

pub paper-kind : (o : Outcome) → Determines (λ (k : ℕ). k ≡ kind_of o)
paper-kind o = equation (kind_of o)

-- ---- octets
pub octets-byte : (s : List ℕ) (i : ℕ) → Determines (λ (r : ℕ). (r ≡ u8_at s i) × (r < 256))
octets-byte s i = λ x y p q. equation (u8_at s i) x y p.0 q.0

pub octets-number16 : (s : List ℕ) (i : ℕ) → Determines (λ (r : ℕ). (r ≡ u16_at s i) × (r < 65536))
octets-number16 s i = λ x y p q. equation (u16_at s i) x y p.0 q.0

pub octets-number24 : (s : List ℕ) (i : ℕ) → Determines (λ (r : ℕ). (r ≡ u24_at s i) × (r < 16777216))
octets-number24 s i = λ x y p q. equation (u24_at s i) x y p.0 q.0

pub octets-number32 : (s : List ℕ) (i : ℕ) → Determines (λ (r : ℕ). (r ≡ u32_at s i) × (r < 4294967296))
octets-number32 s i = λ x y p q. equation (u32_at s i) x y p.0 q.0

pub octets-number : (n : ℕ) (s : List ℕ) (i : ℕ) → Determines (λ (r : ℕ). (r ≡ be_at n s i) × (r < 256 ^ n))
octets-number n s i = λ x y p q. equation (be_at n s i) x y p.0 q.0

pub octets-bytes : (n x : ℕ) → Determines (λ (l : List ℕ). l ≡ be_bytes n x)
octets-bytes n x = equation (be_bytes n x)

pub octets-less : (a b : ℕ) → Determines (λ (r : ℕ). r ≡ a - b)
octets-less a b = equation (a - b)

pub octets-least : (a b : ℕ) → Determines (λ (r : ℕ). r ≡ min a b)
octets-least a b = equation (min a b)

pub octets-cut : {A : Type 0} (s : List A) (a k : ℕ) → Determines (λ (p : List A). p ≡ part a k s)
octets-cut s a k = equation (part a k s)

pub octets-put : (dst src : List ℕ) (at : ℕ) → Determines (λ (d : List ℕ). d ≡ sets dst at src)
octets-put dst src at = equation (sets dst at src)

pub octets-same : (a b : List ℕ) → Determines (λ (r : Bool). r ≡ O.same a b)
octets-same a b = equation (O.same a b)

pub octets-word : (row : List ℕ) (i : ℕ) → Determines (λ (r : ℕ). r ≡ get_or row i 0)
octets-word row i = equation (get_or row i 0)

pub octets-put-word : (row : List ℕ) (i v : ℕ) → Determines (λ (l : List ℕ). l ≡ set row i v)
octets-put-word row i v = equation (set row i v)

-- ---- chart, finder, strings
pub chart-eight : (s : List ℕ) → Determines (λ (r : ℕ). r ≡ T.character 0 s)
chart-eight s = equation (T.character 0 s)

pub chart-eight-found : (s : List ℕ) → Determines (λ (r : Option ℕ). r ≡ F.found (T.character 0 s))
chart-eight-found s = equation (F.found (T.character 0 s))

pub chart-within : (r : Range) (b : ℕ) → Determines (λ (t : Bool). t ≡ within r b)
chart-within r b = equation (within r b)

pub finder-character : (u : ℕ) (s : List ℕ) (at : ℕ) → Determines (λ (r : ℕ). r ≡ T.character u (drop at s))
finder-character u s at = equation (T.character u (drop at s))

pub finder-found : (u : ℕ) (s : List ℕ) (at : ℕ) → Determines (λ (r : Option ℕ). r ≡ F.found (T.character u (drop at s)))
finder-found u s at = equation (F.found (T.character u (drop at s)))

pub strings-well-formed : (u : ℕ) (s : List ℕ) → Determines (λ (r : Bool). r ≡ T.well_formed u s)
strings-well-formed u s = equation (T.well_formed u s)

pub strings-boundary : (u : ℕ) (s : List ℕ) (at limit : ℕ) → Determines (λ (r : ℕ). r ≡ T.boundary u s at limit)
strings-boundary u s at limit = equation (T.boundary u s at limit)

-- ---- fields, texts, reads, part_header, header
pub fields-read-fields : (s : List ℕ) (u kind len : ℕ) → Determines (λ (r : U.Unit). r ≡ fields_of s u kind len)
fields-read-fields s u kind len = equation (fields_of s u kind len)

pub texts-is-ill : (rest : List ℕ) (x : U.Unit) → Determines (λ (r : Bool). r ≡ ill_text rest x)
texts-is-ill rest x = equation (ill_text rest x)

pub reads-read : (rest : List ℕ) → Determines (λ (r : Reading). r ≡ read_of rest)
reads-read rest = equation (read_of rest)

pub part-header-put-part : (out : List ℕ) (w : Part)
    → Determines (λ (r : ℕ × List ℕ). (r.0 ≡ length (part_head w)) × (r.1 ≡ sets out 0 (part_head w)))
part-header-put-part out w = two (length (part_head w)) (sets out 0 (part_head w))

pub header-put-head : (out : List ℕ) (x : U.Unit)
    → Determines (λ (r : ℕ × List ℕ). (r.0 ≡ length (head_of x)) × (r.1 ≡ sets out 0 (head_of x)))
header-put-head out x = two (length (head_of x)) (sets out 0 (head_of x))

-- ---- boxes
pub boxes-step : (m : List ℕ) (at : ℕ) → Determines (λ (r : Stepped). r ≡ step_of m at)
boxes-step m at = equation (step_of m at)

pub boxes-contents : (m : List ℕ) (at : ℕ) → Determines (λ (bytes : List ℕ). bytes ≡ contents_of m at)
boxes-contents m at = equation (contents_of m at)

-- ---- finished
pub finished-is-late : (row : List ℕ) (used time : ℕ) → Determines (λ (r : Bool). r ≡ late row used time)
finished-is-late row used time = equation (late row used time)

pub finished-mark : (row : List ℕ) (used time : ℕ)
    → Determines (λ (r : List ℕ × ℕ). (r.0 ≡ marked_row row used time) × (r.1 ≡ marked_used used))
finished-mark row used time =
    determined-by-two (λ x. x.0) (λ x. x.1) (λ l k. (l, k)) (λ x. refl) (marked_row row used time) (marked_used used)

-- ---- one open sample: the numbers of a place go by value, its arrays are lent where they stand
-- the four arrays
abbrev pub Arrays : Type 0
Arrays = List ℕ × List ℕ × List ℕ × List ℕ

abbrev pub place_of : Head → Arrays → Place
place_of h l = whole h l.0 l.1 l.2 l.3

abbrev pub arrays_of : Place → Arrays
arrays_of p = (p.kinds, p.starts, p.lens, p.bytes)

pub bare-closed : Determines (λ (r : Place). r ≡ P.closed)
bare-closed = equation P.closed

pub bare-closed-head : Determines (λ (r : Head). r ≡ numbers_of P.closed)
bare-closed-head = equation (numbers_of P.closed)

pub bare-opened : (desk time : ℕ) (x : Part) → Determines (λ (r : Head). r ≡ numbers_of (P.opened desk time x))
bare-opened desk time x = equation (numbers_of (P.opened desk time x))

pub bare-clear :
    Determines (λ (l : Arrays).
    (l.0 ≡ replicate parts_most 0) × (l.1 ≡ replicate parts_most 0) × (l.2 ≡ replicate parts_most 0) × (l.3 ≡ replicate sample_most 0))
bare-clear =
    λ x y p q i.
    ((p.0 ∙ sym q.0) i, (p.1 ∙ sym q.1) i, (p.2 ∙ sym q.2) i, (p.3 ∙ sym q.3) i)

pub parts-has : (h : Head) (this : ℕ) → Determines (λ (r : Bool). r ≡ P.has (alone h) this)
parts-has h this = equation (P.has (alone h) this)

pub parts-agrees : (h : Head) (x : Part) → Determines (λ (r : Bool). r ≡ P.agrees (alone h) x)
parts-agrees h x = equation (P.agrees (alone h) x)

pub repeats-repeats : (h : Head) (l : Arrays) (x : Part) (d : List ℕ) → Determines (λ (r : Bool). r ≡ P.repeats (place_of h l) x d)
repeats-repeats h l x d = equation (P.repeats (place_of h l) x d)

pub parts-oversize : (h : Head) (x : Part) (n : ℕ) → Determines (λ (r : Bool). r ≡ P.oversize (alone h) x n)
parts-oversize h x n = equation (P.oversize (alone h) x n)

pub keeps-keep : (h : Head) (l : Arrays) (x : Part) (d : List ℕ)
    → Determines (λ (r : Head × Arrays). place_of r.0 r.1 ≡ P.kept (place_of h l) x d)
keeps-keep h l x d =
    determined (λ r. place_of r.0 r.1) (λ (p : Place). (numbers_of p, arrays_of p)) (λ r. refl) (P.kept (place_of h l) x d)

pub keeps-missing : (h : Head) → Determines (λ (r : ℕ). r ≡ P.missing (alone h))
keeps-missing h = equation (P.missing (alone h))

pub lengths-measure : (h : Head) (l : Arrays)
    → Determines (λ (r : Lengths).
    (r.string ≡ length (string_of (P.pieces_of (place_of h l)))) × (r.sample ≡ length (together (P.pieces_of (place_of h l)))))
lengths-measure h l =
    determined-by-two (λ r. r.string) (λ r. r.sample) (λ a b. record { string = a; sample = b }) (λ r. refl)
    (length (string_of (P.pieces_of (place_of h l)))) (length (together (P.pieces_of (place_of h l))))

-- it is told how long the parts are, put together, and says the same of all that are so long
pub order-is-sound : (h : Head) (l : Arrays) (many : ℕ) → many ≡ length (together (P.pieces_of (place_of h l)))
    → Determines (λ (r : Bool). (starts lens bytes : List ℕ)
    → many ≡ length (together (P.pieces_of (whole h l.0 starts lens bytes)))
    → r ≡ sound h.slen (P.pieces_of (whole h l.0 starts lens bytes)))
order-is-sound h l many e =
    λ x y p q.
    equation (sound h.slen (P.pieces_of (place_of h l))) x y (p l.1 l.2 l.3 e) (q l.1 l.2 l.3 e)

-- it is lent no kinds
pub together-put-together : (h : Head) (starts lens bytes out : List ℕ)
    → Determines (λ (o : List ℕ). (kinds : List ℕ) → o ≡ sets out 0 (together (P.pieces_of (whole h kinds starts lens bytes))))
together-put-together h starts lens bytes out =
    λ x y p q. equation (sets out 0 (together (P.pieces_of (whole h [] starts lens bytes)))) x y (p []) (q [])

-- ---- records, book, window, slots, notes
pub records-record-at : (s : List ℕ) (i : ℕ) → Determines (λ (bytes : List ℕ). bytes ≡ record_at s i)
records-record-at s i = equation (record_at s i)

pub records-description-of : (r : List ℕ) → Determines (λ (bytes : List ℕ). bytes ≡ description_of r)
records-description-of r = equation (description_of r)

pub records-index-at : (s : List ℕ) (i : ℕ) → Determines (λ (r : ℕ). (r ≡ index_of (record_at s i)) × (r < 256))
records-index-at s i = λ x y p q. equation (index_of (record_at s i)) x y p.0 q.0

pub book-check : (book : List ℕ) → Determines (λ (r : Checked). r ≡ check_of book)
book-check book = equation (check_of book)

pub book-of-book : (book : List ℕ) (index : ℕ) → Determines (λ (bytes : List ℕ). bytes ≡ entry_of book index (check_of book))
book-of-book book index = equation (entry_of book index (check_of book))

pub window-newest-of : (newest sidx : ℕ) → Determines (λ (r : ℕ). r ≡ moved newest sidx)
window-newest-of newest sidx = equation (moved newest sidx)

pub window-is-held : (store : List ℕ) (newest v : ℕ) → Determines (λ (r : Bool). r ≡ held store newest v)
window-is-held store newest v = equation (held store newest v)

pub window-is-repeated : (store : List ℕ) (newest v : ℕ) (d : List ℕ) → Determines (λ (r : Bool). r ≡ repeated store newest v d)
window-is-repeated store newest v d = equation (repeated store newest v d)

pub window-does-stay : (newest new v : ℕ) → Determines (λ (r : Bool). r ≡ stays newest new v)
window-does-stay newest new v = equation (stays newest new v)

pub window-of-store : (store : List ℕ) (newest v : ℕ) → Determines (λ (bytes : List ℕ). bytes ≡ in_store store newest v)
window-of-store store newest v = equation (in_store store newest v)

pub slots-forget : (store : List ℕ) (newest new : ℕ) → Determines (λ (s : List ℕ). s ≡ forgotten newest new store)
slots-forget store newest new = equation (forgotten newest new store)

pub slots-put-description : (store : List ℕ) (v : ℕ) (d : List ℕ) → Determines (λ (s : List ℕ). s ≡ stored store v d)
slots-put-description store v d = equation (stored store v d)

pub notes-note : (store : List ℕ) (newest sidx : ℕ) (d : List ℕ)
    → Determines (λ (x : Noted × List ℕ). left x.0 x.1 ≡ noted store newest sidx d)
notes-note store newest sidx d =
    determined (λ x. left x.0 x.1) (λ (a : After). (a.answer, a.store)) (λ x. refl) (noted store newest sidx d)

-- ---- allows, passes, lays, sends, cuts, writes, describes
pub allows-is-unwritable : (u sidx sdur : ℕ) (string modifiers : List ℕ) (m room : ℕ)
    → Determines (λ (r : Bool). r ≡ W.unwritable (caption u sidx sdur string modifiers) m room)
allows-is-unwritable u sidx sdur string modifiers m room = equation (W.unwritable (caption u sidx sdur string modifiers) m room)

pub allows-is-undescribed : (sidx n m room : ℕ) → Determines (λ (r : Bool). r ≡ W.undescribed sidx n m room)
allows-is-undescribed sidx n m room = equation (W.undescribed sidx n m room)

pub passes-find : (u : ℕ) (s : List ℕ) (k number : ℕ)
    → Determines (λ (r : PartFound). (r ≡ sought number 0 (found 0 0 0) (strings u k s)) × (r.count ≤ length s))
passes-find u s k number = λ x y p q. equation (sought number 0 (found 0 0 0) (strings u k s)) x y p.0 q.0

-- each function that puts a unit with its data down
put-down : (out : List ℕ) (x : U.Unit) (d : List ℕ) → Determines (λ (r : ℕ × List ℕ). PutDown r.0 r.1 out x d)
put-down out x d = λ r t p q. two (length (bytes_of x d)) (sets out 0 (bytes_of x d)) r t (p.size, p.out) (q.size, q.out)

pub lays-lay : (out : List ℕ) (x : U.Unit) (d : List ℕ) → Determines (λ (r : ℕ × List ℕ). PutDown r.0 r.1 out x d)
lays-lay out x d = put-down out x d

pub lays-write-whole : (u sidx sdur : ℕ) (string modifiers out : List ℕ)
    → Determines (λ (r : ℕ × List ℕ). PutDown r.0 r.1 out (W.whole_unit (caption u sidx sdur string modifiers)) (string ++ modifiers))
lays-write-whole u sidx sdur string modifiers out = put-down out (W.whole_unit (caption u sidx sdur string modifiers)) (string ++ modifiers)

pub lays-write-string : (u sidx sdur slen total this : ℕ) (d out : List ℕ)
    → Determines (λ (r : ℕ × List ℕ). PutDown r.0 r.1 out (PartUnit (string_part u total this sdur sidx slen (length d))) d)
lays-write-string u sidx sdur slen total this d out = put-down out (PartUnit (string_part u total this sdur sidx slen (length d))) d

pub lays-write-block : (kind sdur total this : ℕ) (d out : List ℕ)
    → Determines (λ (r : ℕ × List ℕ). PutDown r.0 r.1 out (PartUnit (modifiers_part kind total this sdur (length d))) d)
lays-write-block kind sdur total this d out = put-down out (PartUnit (modifiers_part kind total this sdur (length d))) d

pub sends-send-string : (u sidx sdur : ℕ) (string modifiers : List ℕ) (f : PartFound) (total number : ℕ) (out : List ℕ)
    → Determines (λ (r : ℕ × List ℕ). PutDown r.0 r.1 out
    (PartUnit (string_part u total number sdur sidx (length string + length modifiers) (length (found_in f string)))) (found_in f string))
sends-send-string u sidx sdur string modifiers f total number out =
    put-down out (PartUnit (string_part u total number sdur sidx (length string + length modifiers) (length (found_in f string)))) (found_in f string)

pub sends-send-block : (sdur : ℕ) (modifiers : List ℕ) (j k total number : ℕ) (out : List ℕ)
    → Determines (λ (r : ℕ × List ℕ). PutDown r.0 r.1 out
    (PartUnit (modifiers_part (block_type j) total number sdur (length (part (j * k) k modifiers)))) (part (j * k) k modifiers))
sends-send-block sdur modifiers j k total number out =
    put-down out (PartUnit (modifiers_part (block_type j) total number sdur (length (part (j * k) k modifiers)))) (part (j * k) k modifiers)

pub writes-write-sample : (u sidx sdur : ℕ) (string modifiers : List ℕ) (m number : ℕ) (out : List ℕ)
    → Determines (λ (x : Written × List ℕ). W.after x.0 x.1 ≡ written (caption u sidx sdur string modifiers) m number out)
writes-write-sample u sidx sdur string modifiers m number out =
    determined (λ x. W.after x.0 x.1) (λ (a : W.After). (a.answer, a.out)) (λ x. refl)
    (written (caption u sidx sdur string modifiers) m number out)

pub cuts-write-cut : (u sidx sdur : ℕ) (string modifiers : List ℕ) (m number : ℕ) (out : List ℕ)
    → Determines (λ (x : Written × List ℕ). W.after x.0 x.1 ≡ written (caption u sidx sdur string modifiers) m number out)
cuts-write-cut u sidx sdur string modifiers m number out = writes-write-sample u sidx sdur string modifiers m number out

pub describes-write-description : (sidx : ℕ) (d : List ℕ) (m number : ℕ) (out : List ℕ)
    → Determines (λ (x : Written × List ℕ). W.after x.0 x.1 ≡ described sidx d m number out)
describes-write-description sidx d m number out =
    determined (λ x. W.after x.0 x.1) (λ (a : W.After). (a.answer, a.out)) (λ x. refl) (described sidx d m number out)
