-- Law: the module made of a shader depends only on the builds that it uses.
use Rattle.std.proofs.Common.{◌≡◌, map, reverse, cond, refl, ap, ◌∙◌, Result, Ok, Err}
use Rattle.std.proofs.lemmas.List.Elements.{All-same, All-map}
use Rattle.naga_oil_ir.specs.Backend.{FaultValue}
use Rattle.naga_oil_ir.specs.ModuleValue.{ModuleValue}
use Rattle.naga_oil_words.specs.ResultSteps.{◌>>=◌}
use Rattle.naga_oil_registry.specs.Registered.{Defs}
use Rattle.naga_oil_registry.specs.declared.descriptor.ShaderType.{ShaderType}
use Rattle.naga_oil_link.specs.BuiltModule.{BuiltModule, Builds}
use Rattle.naga_oil_link.specs.Linked.{link_whole}
use Rattle.naga_oil_build.specs.Build.{Unbuilt, build}
use Rattle.naga_oil_build.specs.Held.{Settings}
use Rattle.naga_oil.specs.Chain.{chain, with_stages}
use Rattle.naga_oil.specs.Finish.{built_in_text, compose, finish}
use Rattle.naga_oil.specs.LocalLaw.{AlikeIn, ImportsAlike, FinishLaw}
use Rattle.naga_oil.specs.Refused.{Place, Refused, in_text, placed}
use Rattle.naga_oil.specs.Validate.{fault_place, judge, validate}
use Rattle.naga_oil_conditions.specs.Fault.{shader_validation}
use Rattle.naga_oil.proofs.BuildImportsLemmas.{build_imports}
use Rattle.naga_oil.proofs.LocalLemmas.{build_alike, links_alike}

module _ (s : Settings) (defs : Defs) (bs cs : Builds) (places : (shader : Place) (f : FaultValue) → fault_place bs defs shader f ≡ fault_place cs defs shader f) where
  validated_alike : (shader : Place) (m : ModuleValue) → validate s bs defs shader m ≡ validate s cs defs shader m
  validated_alike shader m = ap (λ r. cond s.validate r (Ok m)) (judged (s.front.valid m s.capabilities))
    where
      judged : (r : Result (Unit {0}) FaultValue) → judge bs defs shader m r ≡ judge cs defs shader m r
      judged (Ok done) = refl
      judged (Err f) = ap (λ (p : Place). Err (record { fault = shader_validation f; place = p })) (places shader f)

  judged_alike : (place : Place) (r : Result ModuleValue Refused) → (r >>= validate s bs defs place) ≡ (r >>= validate s cs defs place)
  judged_alike place (Ok m) = validated_alike place m
  judged_alike place (Err f) = refl

  composed_alike : (b : BuiltModule) (shader_type : ShaderType) (place : Place) → ImportsAlike bs cs b.imports → compose s defs bs b shader_type place ≡ compose s defs cs b shader_type place
  unfolding compose
  composed_alike b shader_type place all =
      judged_alike place (placed place (chain b.overriding (with_stages shader_type (link_whole bs b))))
      ∙ ap (λ m. placed place (chain b.overriding (with_stages shader_type m)) >>= validate s cs defs place) (links_alike.whole bs cs b all)

pub finish_alike : FinishLaw
unfolding finish
finish_alike s defs d out shader_type bs cs differ differ' all places =
    ap (finished bs) (build_alike s d out bs cs differ differ' all) ∙ by (build s d out cs) refl
  where
    finished : Builds → Result BuiltModule Unbuilt → Result ModuleValue Refused
    finished xs r = built_in_text d.file_path out.text r >>= λ b. compose s defs xs b shader_type (in_text d.file_path out.text b.offset)

    by : (r : Result BuiltModule Unbuilt) → build s d out cs ≡ r → finished bs r ≡ finished cs r
    by (Ok b) e = composed_alike s defs bs cs places b shader_type (in_text d.file_path out.text b.offset) (All-same (λ i. AlikeIn (reverse bs) (reverse cs) i.import) b.imports (map (λ u. u.import) out.uses) (build_imports s d out cs b e) (All-map (λ i. AlikeIn (reverse bs) (reverse cs) i.import) (λ u. u.import) out.uses all))
    by (Err u) e = refl
