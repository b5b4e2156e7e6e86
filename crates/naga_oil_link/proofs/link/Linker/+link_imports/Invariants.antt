use Rattle.std.proofs.Common.{◌≡◌, map, take}
use Rattle.naga_oil_imports.specs.Uses.{import_of}
use Rattle.naga_oil_link.specs.BuiltModule.{builds_of}
use Rattle.naga_oil_link.specs.LinkView.{IsLinkFormed, LinksImports}
use Rattle.naga_oil_link.proofs.link.Linker.+link_imports.Given as goal

abbrev pub decreases-link_imports : goal.decreases-link_imports
decreases-link_imports l = l.end

abbrev pub invariant-loop-import : goal.invariant-loop-import
invariant-loop-import l = record {
  builds : l.self.builds ≡ l.fn.self.builds;
  of_headers : l.self.of_headers ≡ l.fn.self.of_headers;
  linked : LinksImports l.fn.self.of_headers (builds_of l.fn.self.builds.now) l.end (map import_of (take l.import-index l.imports)) l.fn.self.derived l.fn.self.descended.keys l.self.derived l.self.descended.keys;
  formed : IsLinkFormed l.self.derived;
}
