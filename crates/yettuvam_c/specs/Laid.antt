-- The parts of a result, one after the other: their bytes, and the place of each part in them.
use Rattle.std.specs.Prelude.{◌≡◌, ℕ, ℤ, pos, List, [], ◌∷◌, ◌++◌, fold, length, drop, Bool, true, false, not, ◌&&◌, nat_lt}
use Rattle.yettuvam_c.specs.declared.page.Field.{Field}
use Rattle.yettuvam_c.specs.declared.page.Page.{Page}
use Rattle.yettuvam_c.specs.declared.sheet.Sheet.{Sheet}
use Rattle.yettuvam_c.specs.declared.sheet.Part.{Part as Pushed}

-- a part of a result: its text, place and value
pub record Part : Type 0 where
  pub kind : ℕ
  pub text : List ℕ
  pub place : ℕ
  pub value : ℤ

-- a part without value
abbrev pub plain : (kind : ℕ) (text : List ℕ) (place : ℕ) → Part
plain kind text place = record { kind = kind; text = text; place = place; value = pos 0 }

pub record Laid : Type 0 where
  pub bytes : List ℕ
  pub fields : List Field

abbrev pub blank : Laid
blank = record { bytes = []; fields = [] }

-- the field of a part at a place of the bytes
abbrev pub field_at : ℕ → Part → Field
field_at at p = record { kind = p.kind; at = at; len = length p.text; place = p.place; value = p.value }

-- another part
abbrev pub with_part : Laid → Part → Laid
with_part l p = record { bytes = l.bytes ++ p.text; fields = l.fields ++ field_at (length l.bytes) p ∷ [] }

-- the parts, one after the other
abbrev pub laid : List Part → Laid
laid parts = fold with_part blank parts

-- ---- as the code has them
abbrev pub part_of : Pushed → Part
part_of p = record { kind = p.kind; text = p.text.now; place = p.place; value = p.value }

abbrev pub laid_of : Sheet → Laid
laid_of s = record { bytes = s.bytes.items; fields = s.fields.items }

-- ---- on a page

-- the page has room for the parts
abbrev pub fits : Laid → Page → Bool
fits l page = not (nat_lt (length page.out.now) (length l.bytes)) && not (nat_lt (length page.fields.now) (length l.fields))

-- the page has the counts of the parts
abbrev pub Counts : Laid → Page → Type 0
Counts l page = (page.bytes ≡ length l.bytes) × (page.count ≡ length l.fields)

-- the parts are at the start of the page, whose rest is unchanged; or nothing is written
abbrev pub Stands : (room : Bool) → Laid → (old new : Page) → Type 0
Stands true l old new = Counts l new × (new.out.now ≡ l.bytes ++ drop (length l.bytes) old.out.now) × (new.fields.now ≡ l.fields ++ drop (length l.fields) old.fields.now)
Stands false l old new = Counts l new × (new.out.now ≡ old.out.now) × (new.fields.now ≡ old.fields.now)
