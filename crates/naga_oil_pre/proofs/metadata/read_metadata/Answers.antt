use Rattle.std.proofs.Common.{◌≡◌, ◌∙◌, ℕ, List, Ok, ap, map, refl, rules, string_bytes}
use Rattle.std.specs.BTreeSet.{contains_text}
use Rattle.naga_oil_imports.specs.Uses.{use_of}
use Rattle.naga_oil_conditions.specs.Line.{source_lines}
use Rattle.naga_oil_pre.specs.Metadata.{found_in, nothing_found}
use Rattle.naga_oil_pre.specs.MetadataView.{found_of}
use Rattle.naga_oil_pre.specs.Recorded.{is_recorded}
use Rattle.naga_oil_pre.proofs.LoopLemmas.{uses_of_values}
use Rattle.naga_oil_pre.proofs.MetadataLemmas.{metadata_made, agreed}
use Rattle.naga_oil_pre.proofs.metadata.read_metadata.Goals as goal

pub returns-clause-value : goal.returns-clause-value
returns-clause-value c =
    let findings = c.in_ok-name.field-0 in
    let items : c.in_ok-collect.field-0.items ≡ map (λ e. e.1) findings.imports.used.entries = search rules in
    let read : found_in c.args.allow_defines nothing_found 0 (source_lines (string_bytes c.args.cleaned)) ≡ Ok (found_of findings) = rw (← c.as_str.ensures.value) c.in_ok-name.ensures.ok in
    let names : (name : List ℕ) → contains_text findings.names name ≡ is_recorded (string_bytes c.args.cleaned) name = rw (← c.as_str.ensures.value) c.in_ok-name.ensures.names in
    metadata_made c.args.allow_defines
    (record { name = findings.name; imports = c.in_ok-collect.field-0; defines = findings.defines; effective_defs = findings.names; wgsl_directives = c.args.directives; cleaned_source = c.args.cleaned })
    (found_of findings) read refl (ap (map use_of) items ∙ uses_of_values findings.imports.used.entries) refl names

pub returns-clause-agreement : goal.returns-clause-agreement
returns-clause-agreement c =
    let findings = c.in_ok-name.field-0 in
    let names : (name : List ℕ) → contains_text findings.names name ≡ is_recorded (string_bytes c.args.cleaned) name = rw (← c.as_str.ensures.value) c.in_ok-name.ensures.names in
    agreed (string_bytes c.args.cleaned) findings.names names
