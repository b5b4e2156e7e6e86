use Rattle.std.proofs.Common.{◌≡◌, [], map, drop}
use Rattle.naga_oil_imports.specs.Uses.{import_of}
use Rattle.naga_oil_link.specs.BuiltModule.{builds_of}
use Rattle.naga_oil_build.specs.Overriding.{overriding_of, imported_overriding}
use Rattle.naga_oil_build.proofs.builder.Builder.imported_overrides.Given as goal

abbrev pub invariant-loop-import : goal.invariant-loop-import
invariant-loop-import g l = imported_overriding (builds_of l.self.builds) (overriding_of l.all) (map import_of (drop l.import-index l.imports)) ≡ imported_overriding (builds_of l.self.builds) [] (map import_of l.imports)
