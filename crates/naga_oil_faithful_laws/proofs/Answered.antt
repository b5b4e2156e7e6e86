-- The answer of the small make.
use Rattle.std.proofs.Common.{◌≡◌, [], ◌∷◌, refl, Ok, ap}
use Rattle.std.specs.Prelude.{codes}
use Rattle.naga_oil_ir.specs.declared.backend.Capabilities.{Capabilities}
use Rattle.naga_oil_link.specs.BuiltModule.{Builds}
use Rattle.naga_oil_link.specs.Linked.{link_whole}
use Rattle.naga_oil_redirect.specs.Level.{level_below}
use Rattle.naga_oil_redirect.specs.PutInOrder.{in_turn}
use Rattle.naga_oil.specs.Answer.{read_and_build_first, read_and_build_second, module_of_text, answer}
use Rattle.naga_oil.specs.Chain.{sent_down, all_sent_down, chain_all}
use Rattle.naga_oil.specs.Finish.{compose, finish}
use Rattle.naga_oil.specs.Refused.{Place}
use Rattle.naga_oil.specs.Reach.{reach_each, reach_module, reach}
use Rattle.naga_oil.specs.MakeDefs.{make_defs}
use Rattle.naga_oil_faithful_laws.specs.SmallMake.{small_settings, registry, shader, made_with, right}
use Rattle.naga_oil_faithful_laws.specs.SmallMakeLaw.{AnswerLaw}
use Rattle.naga_oil_faithful_laws.proofs.Texts.{source_read, described, shader_read, module_read}
use Rattle.naga_oil_faithful_laws.proofs.Builds.{copies, module_build, shader_build, module_is_built, shader_is_built}

abbrev pub builds : Builds
builds = (codes "m", module_build) ∷ []

-- the linked module, and the made one
pub composed : (c : Capabilities) (place : Place) → compose (small_settings c) [] builds shader_build shader.shader_type place ≡ Ok (made_with right)
unfolding compose link_whole chain_all sent_down all_sent_down level_below in_turn copies
composed c place = refl

pub defs_made : make_defs registry 0 shader ≡ []
unfolding make_defs
defs_made = rw (source_read, described, shader_read) refl

pub answered : (c : Capabilities) → answer (small_settings c) registry 0 shader ≡ record { counter = 0; builds = builds; result = Ok (made_with right) }
unfolding answer module_of_text read_and_build_first read_and_build_second reach_each reach_module reach finish
answered c = rw (source_read, described, shader_read, module_read, module_is_built, shader_read, shader_is_built, composed) refl

pub answers : AnswerLaw
answers c = ap (λ o. o.result) (answered c)
