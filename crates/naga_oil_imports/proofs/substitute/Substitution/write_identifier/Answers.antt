use Rattle.std.proofs.Common.{◌≡◌, ◌<◌, ◌++◌, [], ◌∷◌, true, length, map, string_bytes, ap, sym, ◌∙◌, append-nil, arith}
use Rattle.std.specs.List.{flat_map}
use Rattle.std.proofs.lemmas.Bool.Decides.{nat_tests}
use Rattle.std.proofs.lemmas.List.{nil_from_length, length-map}
use Rattle.naga_oil_imports.specs.declared.substitute.SubstituteFault.TheVariants.{Memory}
use Rattle.naga_oil_imports.specs.Declarations.{declared_of, paths_of}
use Rattle.naga_oil_imports.specs.Substituted.{first_part, past_first, longer_paths, paths_for, path_text, mentions_at, with_mentions, Site, is_refused}
use Rattle.naga_oil_imports.specs.Uses.{uses_of}
use Rattle.naga_oil_imports.proofs.SettledLemmas.{own_path, paths_for_own, paths_for_declared, one_path, refused_is, refused_one, refused_none, settled_one, memory_one, mentions_one, fault_answer}
use Rattle.naga_oil_imports.proofs.substitute.Substitution.write_identifier.Goals as goal

pub returns-then-is_empty-clause-text : goal.returns-then-is_empty-clause-text
returns-then-is_empty-clause-text c =
    let declared = declared_of c.args.self.now.declared_imports.now in
    let name = c.args.identifier.now in
    let empty : c.declared_paths-paths.result.now ≡ [] = nil_from_length _ (grind (arith, nat_tests)) in
    let none : paths_of declared (first_part name) ≡ [] = ap (paths_of declared) (sym c.split_identifier.ensures.first) ∙ sym c.declared_paths-paths.ensures ∙ ap (map string_bytes) empty in
    let own : paths_for declared name ≡ own_path name ∷ [] = paths_for_own declared name none in
    λ w. c.in_ok-write_path.ensures.text w
    ∙ ap (λ l. string_bytes c.args.output.now ++ l) (ap (path_text name) c.own_path-path.ensures ∙ sym (append-nil (path_text name (own_path name))) ∙ ap (flat_map (path_text name)) (sym own))

pub returns-then-is_empty-clause-used : goal.returns-then-is_empty-clause-used
returns-then-is_empty-clause-used c =
    let declared = declared_of c.args.self.now.declared_imports.now in
    let name = c.args.identifier.now in
    let site : Site = record { name = name; place = c.args.place } in
    let empty : c.declared_paths-paths.result.now ≡ [] = nil_from_length _ (grind (arith, nat_tests)) in
    let none : paths_of declared (first_part name) ≡ [] = ap (paths_of declared) (sym c.split_identifier.ensures.first) ∙ sym c.declared_paths-paths.ensures ∙ ap (map string_bytes) empty in
    let own : paths_for declared name ≡ own_path name ∷ [] = paths_for_own declared name none in
    c.in_ok-write_path.ensures.used
    ∙ ap (with_mentions (uses_of c.args.used_imports.now)) (ap (mentions_at c.args.place) c.own_path-path.ensures ∙ sym (append-nil (mentions_at c.args.place (own_path name))) ∙ sym (mentions_one declared site (own_path name ∷ []) own))

pub returns-then-is_empty-clause-allowed : goal.returns-then-is_empty-clause-allowed
returns-then-is_empty-clause-allowed c =
    let declared = declared_of c.args.self.now.declared_imports.now in
    let name = c.args.identifier.now in
    let site : Site = record { name = name; place = c.args.place } in
    let empty : c.declared_paths-paths.result.now ≡ [] = nil_from_length _ (grind (arith, nat_tests)) in
    let none : paths_of declared (first_part name) ≡ [] = ap (paths_of declared) (sym c.split_identifier.ensures.first) ∙ sym c.declared_paths-paths.ensures ∙ ap (map string_bytes) empty in
    let own : paths_for declared name ≡ own_path name ∷ [] = paths_for_own declared name none in
    settled_one declared c.args.self.now.allow_ambiguous site (one_path declared c.args.self.now.allow_ambiguous site (own_path name) own)

pub returns-in_err-write_path-clause-fault : goal.returns-in_err-write_path-clause-fault
returns-in_err-write_path-clause-fault c =
    let declared = declared_of c.args.self.now.declared_imports.now in
    let name = c.args.identifier.now in
    let site : Site = record { name = name; place = c.args.place } in
    let empty : c.declared_paths-paths.result.now ≡ [] = nil_from_length _ (grind (arith, nat_tests)) in
    let none : paths_of declared (first_part name) ≡ [] = ap (paths_of declared) (sym c.split_identifier.ensures.first) ∙ sym c.declared_paths-paths.ensures ∙ ap (map string_bytes) empty in
    let own : paths_for declared name ≡ own_path name ∷ [] = paths_for_own declared name none in
    fault_answer c.from_residual.result _ Memory c.from_residual.ensures.1
    (memory_one declared c.args.self.now.allow_ambiguous site (mentions_at c.args.place c.own_path-path.result.now) (uses_of c.args.used_imports.now) (uses_of c.write_path.new.used_imports)
    (one_path declared c.args.self.now.allow_ambiguous site (own_path name) own)
    (mentions_one declared site (own_path name ∷ []) own ∙ append-nil (mentions_at c.args.place (own_path name)) ∙ ap (mentions_at c.args.place) (sym c.own_path-path.ensures))
    c.in_err-write_path.ensures.begun)

pub returns-in_err-write_paths-clause-fault : goal.returns-in_err-write_paths-clause-fault
returns-in_err-write_paths-clause-fault c =
    let declared = declared_of c.args.self.now.declared_imports.now in
    let name = c.args.identifier.now in
    let site : Site = record { name = name; place = c.args.place } in
    let some : 0 < length c.declared_paths-paths.result.now = grind (arith, nat_tests) in
    let paths : paths_for declared name ≡ longer_paths (map string_bytes c.declared_paths-paths.result.now) (past_first name) =
    paths_for_declared declared name (map string_bytes c.declared_paths-paths.result.now) (c.declared_paths-paths.ensures ∙ ap (paths_of declared) c.split_identifier.ensures.first)
    (omega (arith, some, length-map c.declared_paths-paths.result.now string_bytes)) in
    fault_answer c.from_residual-in_err-write_paths.result _ Memory c.from_residual-in_err-write_paths.ensures.1
    (memory_one declared c.args.self.now.allow_ambiguous site (flat_map (mentions_at c.args.place) (longer_paths (map string_bytes c.declared_paths-paths.result.now) c.split_identifier.result.1.now))
    (uses_of c.args.used_imports.now) (uses_of c.write_paths.new.used_imports)
    (refused_is declared c.args.self.now.allow_ambiguous site c.declared_paths-paths.result.now (past_first name) paths ∙ sym c.is_refused.ensures ∙ c.if-is_refused.false)
    (mentions_one declared site (longer_paths (map string_bytes c.declared_paths-paths.result.now) (past_first name)) paths
    ∙ ap (λ b. flat_map (mentions_at c.args.place) (longer_paths (map string_bytes c.declared_paths-paths.result.now) b)) (sym c.split_identifier.ensures.following))
    c.in_err-write_paths.ensures.begun)

pub returns-then-is_refused-clause-fault : goal.returns-then-is_refused-clause-fault
returns-then-is_refused-clause-fault c =
    let declared = declared_of c.args.self.now.declared_imports.now in
    let name = c.args.identifier.now in
    let site : Site = record { name = name; place = c.args.place } in
    let some : 0 < length c.declared_paths-paths.result.now = grind (arith, nat_tests) in
    let paths : paths_for declared name ≡ longer_paths (map string_bytes c.declared_paths-paths.result.now) (past_first name) =
    paths_for_declared declared name (map string_bytes c.declared_paths-paths.result.now) (c.declared_paths-paths.ensures ∙ ap (paths_of declared) c.split_identifier.ensures.first)
    (omega (arith, some, length-map c.declared_paths-paths.result.now string_bytes)) in
    let refused : is_refused declared c.args.self.now.allow_ambiguous site ≡ true =
    refused_is declared c.args.self.now.allow_ambiguous site c.declared_paths-paths.result.now (past_first name) paths ∙ sym c.is_refused.ensures ∙ c.if-is_refused.true in
    (refused_one declared c.args.self.now.allow_ambiguous site refused, ap (with_mentions (uses_of c.args.used_imports.now)) (sym (refused_none declared c.args.self.now.allow_ambiguous site refused)))

pub returns-clause-text : goal.returns-clause-text
returns-clause-text c =
    let declared = declared_of c.args.self.now.declared_imports.now in
    let name = c.args.identifier.now in
    let some : 0 < length c.declared_paths-paths.result.now = grind (arith, nat_tests) in
    let paths : paths_for declared name ≡ longer_paths (map string_bytes c.declared_paths-paths.result.now) (past_first name) =
    paths_for_declared declared name (map string_bytes c.declared_paths-paths.result.now) (c.declared_paths-paths.ensures ∙ ap (paths_of declared) c.split_identifier.ensures.first)
    (omega (arith, some, length-map c.declared_paths-paths.result.now string_bytes)) in
    λ w. c.in_ok-write_paths.ensures.text w
    ∙ ap (λ l. string_bytes c.args.output.now ++ flat_map (path_text name) l) (ap (longer_paths (map string_bytes c.declared_paths-paths.result.now)) c.split_identifier.ensures.following ∙ sym paths)

pub returns-clause-used : goal.returns-clause-used
returns-clause-used c =
    let declared = declared_of c.args.self.now.declared_imports.now in
    let name = c.args.identifier.now in
    let site : Site = record { name = name; place = c.args.place } in
    let some : 0 < length c.declared_paths-paths.result.now = grind (arith, nat_tests) in
    let paths : paths_for declared name ≡ longer_paths (map string_bytes c.declared_paths-paths.result.now) (past_first name) =
    paths_for_declared declared name (map string_bytes c.declared_paths-paths.result.now) (c.declared_paths-paths.ensures ∙ ap (paths_of declared) c.split_identifier.ensures.first)
    (omega (arith, some, length-map c.declared_paths-paths.result.now string_bytes)) in
    c.in_ok-write_paths.ensures.used
    ∙ ap (with_mentions (uses_of c.args.used_imports.now))
    (ap (λ b. flat_map (mentions_at c.args.place) (longer_paths (map string_bytes c.declared_paths-paths.result.now) b)) c.split_identifier.ensures.following
    ∙ sym (mentions_one declared site (longer_paths (map string_bytes c.declared_paths-paths.result.now) (past_first name)) paths))

pub returns-clause-allowed : goal.returns-clause-allowed
returns-clause-allowed c =
    let declared = declared_of c.args.self.now.declared_imports.now in
    let name = c.args.identifier.now in
    let site : Site = record { name = name; place = c.args.place } in
    let some : 0 < length c.declared_paths-paths.result.now = grind (arith, nat_tests) in
    let paths : paths_for declared name ≡ longer_paths (map string_bytes c.declared_paths-paths.result.now) (past_first name) =
    paths_for_declared declared name (map string_bytes c.declared_paths-paths.result.now) (c.declared_paths-paths.ensures ∙ ap (paths_of declared) c.split_identifier.ensures.first)
    (omega (arith, some, length-map c.declared_paths-paths.result.now string_bytes)) in
    settled_one declared c.args.self.now.allow_ambiguous site
    (refused_is declared c.args.self.now.allow_ambiguous site c.declared_paths-paths.result.now (past_first name) paths ∙ sym c.is_refused.ensures ∙ c.if-is_refused.false)
