-- Names that stay as they are.
use Rattle.std.proofs.Common.{◌≡◌, Bool, true, false, not, ◌&&◌, ◌||◌, if◌then◌else◌, [], ◌∷◌, ◌++◌, Some, Result, Ok, Err, refl, sym, ap, ◌∙◌}
use Rattle.naga_oil_ir.specs.declared.span.Span.{Span}
use Rattle.naga_oil_words.specs.Marks.{has_module_mark}
use Rattle.yettuvam_wgsl_names.specs.Table.{Name}
use Rattle.yettuvam_wgsl_written_names.specs.Items.{Naming, add_name, with_name}
use Rattle.yettuvam_wgsl_written_names.specs.Spelled.{is_name}
use Rattle.yettuvam_wgsl_written_names.specs.Taken.{Taken, Made, has, taking, fresh, make_numbered}

abbrev choice : Bool → Taken → Name → Made
choice b t n = taking (if b then make_numbered t n else record { name = n; taken = t })

pub kept : (t : Taken) (n : Name) → has t n ≡ false → (fresh t n).name ≡ n
kept t n e = ap (λ b. (choice b t n).name) e

abbrev added : Bool → Naming → Name → Span → Result Naming Span
added b s n span = if b then Err span else Ok (with_name s.names (fresh s.taken n).name (fresh s.taken n).taken)

pub decorated : (s : Naming) (n : Name) (span : Span) (r : Naming) → has_module_mark n ≡ true → add_name s (Some n, span) ≡ Ok r → r.names ≡ s.names ++ Some n ∷ []
unfolding add_name
decorated s n span r mark e = by (is_name n) (has s.taken n) refl (sym (ap (λ m. added (not (is_name n) || (has s.taken n && m)) s n span) mark) ∙ e)
  where
    by : (spelled taken : Bool) → has s.taken n ≡ taken → added (not spelled || (taken && true)) s n span ≡ Ok r → r.names ≡ s.names ++ Some n ∷ []
    by false taken h f = cc
    by true true h f = cc
    by true false h f = let named : Ok (with_name s.names (fresh s.taken n).name (fresh s.taken n).taken) ≡ Ok r = f in let same : r ≡ with_name s.names (fresh s.taken n).name (fresh s.taken n).taken = cc in ap (λ x. x.names) same ∙ ap (λ m. s.names ++ Some m ∷ []) (kept s.taken n h)
