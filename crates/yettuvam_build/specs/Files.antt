-- The files that are read.
use Rattle.std.specs.Prelude.{◌≡◌, ℕ, List, Option, Some, Result, Ok, Vec, String, string_bytes}
use Rattle.std.specs.Borrow.{Bor}
use Rattle.std.specs.List.{FoldsTo}
use Rattle.std.specs.declared.alloc.AllocError.{AllocError}
use Rattle.std.specs.declared.alloc.Global.{Global}

-- a file: its path, and its text
pub record File : Type 0 where
  pub path : List ℕ
  pub text : List ℕ

-- a file, as the code has it
abbrev pub file_of : Bor (List ℕ) × String Global → File
file_of f = record { path = f.0.now; text = string_bytes f.1 }

-- the calls of a reader: its state, the path, what is returned, and its state then
abbrev pub Calls : Type 0 → Type 1
Calls F = F → Bor (List ℕ) → Result (Option (Vec ℕ Global)) AllocError → F → Type 0

-- a call of a reader with the path of a file returns the file's text
pub record ReadsFile {F : Type 0} (calls : Calls F) (reader : F) (f : File) (next : F) : Type 0 where
  pub path : Bor (List ℕ)
  pub bytes : Vec ℕ Global
  pub is_path : path.now ≡ f.path
  pub returned : calls reader path (Ok (Some bytes)) next
  pub is_text : bytes.items ≡ f.text

-- calls of a reader, one after the other, return the texts of files
abbrev pub Reads : {F : Type 0} → Calls F → F → List File → Type 0
Reads {F} calls reader files = (last : F) × FoldsTo (ReadsFile calls) reader files last
