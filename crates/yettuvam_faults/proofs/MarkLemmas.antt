-- The marks of spans, one after the other.
use Rattle.std.proofs.Common.{◌≡◌, ℕ, ◌+◌, ◌<◌, List, [], ◌∷◌, ◌++◌, length, take, get_or, ap, sym, ◌∙◌, append-nil, string_bytes}
use Rattle.std.specs.List.{flat_map}
use Rattle.std.specs.Prelude.{String}
use Rattle.std.specs.declared.alloc.Global.{Global}
use Rattle.std.proofs.lemmas.Grind.{flat_map-append}
use Rattle.std.proofs.lemmas.List.{map-append, take_more}
use Rattle.naga_oil_ir.specs.Backend.{labels}
use Rattle.naga_oil_ir.specs.declared.span.Span.{Span}
use Rattle.yettuvam_report.specs.Report.{Mark}

pub spans_more : (f : Span × List ℕ → List Mark) (spans : List (Span × String Global)) (i : ℕ) (x : Span × String Global) → i < length spans → x ≡ get_or spans i x
    → flat_map f (labels (take (i + 1) spans)) ≡ flat_map f (labels (take i spans)) ++ f (x.0, string_bytes x.1)
spans_more f spans i x l read =
    ap (λ xs. flat_map f (labels xs)) (take_more spans i x l ∙ ap (λ y. take i spans ++ y ∷ []) (sym read))
    ∙ ap (flat_map f) (map-append (λ s. (s.0, string_bytes s.1)) (take i spans) (x ∷ []))
    ∙ flat_map-append f (labels (take i spans)) ((x.0, string_bytes x.1) ∷ [])
    ∙ ap (λ t. flat_map f (labels (take i spans)) ++ t) (append-nil (f (x.0, string_bytes x.1)))
