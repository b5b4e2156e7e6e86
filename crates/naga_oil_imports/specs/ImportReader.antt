-- Reading an import line part by part with a stack of heads, for the contracts of the private
-- functions. The public ones cite `Leaves`.
use Rattle.std.specs.Prelude.{ℕ, ◌-◌, Bool, false, ◌||◌, if◌then◌else◌, nat_le, Result, Ok, Err, List, [], ◌∷◌, ◌++◌, length, take, codes, bytes_eq}
use Rattle.std.specs.List.{concat}
use Rattle.naga_oil_imports.specs.Declarations.{Declared}
use Rattle.naga_oil_imports.specs.Leaves.{SyntaxFault, ImportPart, head, leaf, close, nothing, wrong, Leaf}

-- the texts of the open heads, the outermost first, whether the old form was used, and the leaves
pub record Reader : Type 0 where
  pub heads : List (List ℕ)
  pub old_form : Bool
  pub leaves : List Leaf

-- nothing has been read
abbrev pub at_start : Reader
at_start = record { heads = []; old_form = false; leaves = [] }

-- one more part
abbrev pub step : Reader → ImportPart → Result Reader SyntaxFault
step r (head is_old text) = Ok (record { heads = r.heads ++ text ∷ []; old_form = r.old_form || is_old; leaves = r.leaves })
step r (leaf key name) = Ok (record { heads = r.heads; old_form = r.old_form; leaves = r.leaves ++ (key, concat r.heads ++ name) ∷ [] })
step r (close at) = elim r.heads [ [] ↦ Err (codes "close brace without open", at) | h ∷ hs ↦ Ok (record { heads = take (length r.heads - 1) r.heads; old_form = r.old_form; leaves = r.leaves }) ]
step r nothing = Ok r
step r (wrong f) = Err f

-- whether the line may end
abbrev pub may_end : Reader → Bool
may_end r = nat_le (length r.heads) (if r.old_form then 1 else 0)

-- the end of the line, at a place
abbrev pub finish : (end : ℕ) → Reader → Result (List Leaf) SyntaxFault
finish end r = if may_end r then Ok r.leaves else Err (codes "missing close brace", end)

-- the leaves after these parts, or the first fault
unfoldable pub run : (end : ℕ) → Reader → List ImportPart → Result (List Leaf) SyntaxFault
run end r [] = finish end r
run end r (p ∷ ps) = elim (step r p) [ Ok next ↦ run end next ps | Err f ↦ Err f ]

-- without the last path at a key
abbrev pub without_path : Declared → (key : List ℕ) → Declared
without_path [] key = []
without_path ((k, paths) ∷ more) key = if bytes_eq k key then (k, take (length paths - 1) paths) ∷ more else (k, paths) ∷ without_path more key
