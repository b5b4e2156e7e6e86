use Rattle.std.proofs.Common.{◌≡◌, ℕ, Bool, true, false, subst, List, map, position, Some, nat_eq, slice_get, string_bytes, sym, ap, ◌∙◌, arith}
use Rattle.std.proofs.Math.Path.{transport}
use Rattle.std.specs.Arc.{arc_value}
use Rattle.std.specs.Bool.{OnFalse}
use Rattle.std.specs.BTreeSet.{insert_key}
use Rattle.std.specs.List.{list_any}
use Rattle.std.specs.Ordering.{nat_cmp}
use Rattle.naga_oil_imports.specs.Uses.{import_of}
use Rattle.naga_oil_link.specs.BuiltModule.{BuiltModule, built_of, builds_of}
use Rattle.naga_oil_link.specs.Linked.{asked_of, link_items}
use Rattle.naga_oil_link.specs.LinkView.{IsLinkFormed, LinksImports}
use Rattle.naga_oil_link.specs.declared.link.Linker.{Linker}
use Rattle.naga_oil_link.specs.declared.module.ComposableModule.{ComposableModule}
use Rattle.naga_oil_link.proofs.LinkedLemmas.{named, missing_at, found_at, entry_at, entries_apart, none_before, import_unknown, import_left, import_linked, links_known, links_after, LinksImport, same_numbers, not_true, not_false}
use Rattle.naga_oil_link.proofs.link.Linker.+link_imports.Goals as goal
use Rattle.naga_oil_link.proofs.link.Linker.+link_imports.Goals.{then-branch+in_ok-link_imports, else-branch}

pub loop-import-preserved-in_default : goal.loop-import-preserved-in_default
loop-import-preserved-in_default t c =
    let start = c.args.self.now in
    let bs = builds_of start.builds.now in
    let x = c.import-item.result in
    let s = c.loop-import.self in
    let inv = c.loop-import.invariant in
    let none : list_any (named (import_of x).import) bs ≡ false = sym (λ k. list_any (named (c.as_str.ensures.value k)) (builds_of (inv.builds k).now)) ∙ missing_at s.builds.now.entries c.as_str.result.now (sym c.in_default.ensures.index) in
    record {
      builds = inv.builds;
      of_headers = inv.of_headers;
      linked = import_unknown start.of_headers bs c.args.end c.args.imports.now c.loop-import.import-index x c.loop-import-test.true c.import-item.is start.derived s.derived start.descended.keys s.descended.keys inv.linked none;
      formed = inv.formed;
    }

pub loop-import-preserved-then-end-place : goal.loop-import-preserved-then-end-place
loop-import-preserved-then-end-place t c =
    let start = c.args.self.now in
    let bs = builds_of start.builds.now in
    let x = c.import-item.result in
    let s = c.loop-import.self in
    let inv = c.loop-import.invariant in
    let k = c.in-Some.place in
    let name = c.as_str.result.now in
    let at : position (named (import_of x).import) bs ≡ Some k = sym (λ j. position (named (c.as_str.ensures.value j)) (builds_of (inv.builds j).now)) ∙ found_at s.builds.now.entries name k (sym c.in-Some.ensures.index) in
    let is = sym (λ j. slice_get (builds_of (inv.builds j).now) k) ∙ entry_at s.builds.now.entries name k c.in-Some.field-0-1.now c.in-Some.build.now c.in-Some.ensures.entry in
    record {
      builds = inv.builds;
      of_headers = inv.of_headers;
      linked = import_left start.of_headers bs c.args.end c.args.imports.now c.loop-import.import-index x c.loop-import-test.true c.import-item.is start.derived s.derived start.descended.keys s.descended.keys inv.linked (none_before bs (import_of x).import k (string_bytes c.in-Some.field-0-1.now, built_of (arc_value c.in-Some.build.now)) at is c.args.end c.if-end-place.true);
      formed = inv.formed;
    }

pub link_asked-requires : goal.link_asked-requires
link_asked-requires t c = elim c.if-branch.branch [
  | then-branch+in_ok-link_imports w ↦ subst (λ (s : Linker). IsLinkFormed s.derived) (sym w.self-is) w.in_ok-link_imports.ensures.formed
  | else-branch w ↦ subst (λ (s : Linker). IsLinkFormed s.derived) (sym w.self-is) c.loop-import.invariant.formed
]

pub loop-import-preserved : goal.loop-import-preserved
loop-import-preserved t c =
    let start = c.args.self.now in
    let bs = builds_of start.builds.now in
    let end = c.args.end in
    let x = c.import-item.result in
    let i = import_of x in
    let s0 = c.loop-import.self in
    let s2 = c.if-branch.self in
    let s3 = c.link_asked.new.self in
    let inv = c.loop-import.invariant in
    let k = c.in-Some.place in
    let b = built_of (arc_value c.in-Some.build.now) in
    let e : List ℕ × BuiltModule = (string_bytes c.in-Some.field-0-1.now, b) in
    let name = c.as_str.result.now in
    let apart = entries_apart start.builds.now.entries c.len-unique.ensures.unique in
    let at : position (named i.import) bs ≡ Some k = sym (λ j. position (named (c.as_str.ensures.value j)) (builds_of (inv.builds j).now)) ∙ found_at s0.builds.now.entries name k (sym c.in-Some.ensures.index) in
    let is : slice_get bs k ≡ Some e = sym (λ j. slice_get (builds_of (inv.builds j).now) k) ∙ entry_at s0.builds.now.entries name k c.in-Some.field-0-1.now c.in-Some.build.now c.in-Some.ensures.entry in
    let same = ap built_of c.deref-in-loop-import.ensures in
    let rest3 = c.link_asked.ensures.rest in
    let more = import_linked start.of_headers bs end c.args.imports.now c.loop-import.import-index x c.loop-import-test.true c.import-item.is start.derived s0.derived start.descended.keys s0.descended.keys inv.linked s3.derived s3.descended.keys in
    elim c.if-branch.branch [
      | then-branch+in_ok-link_imports w ↦
          let n = w.link_imports.new.self in
          let of_headers : s2.of_headers ≡ start.of_headers = ap (λ (s : Linker). s.of_headers) w.self-is ∙ w.link_imports.ensures.rest.1 ∙ inv.of_headers in
          let keys : n.descended.keys ≡ s3.descended.keys = sym (ap (λ (s : Linker). s.descended.keys) rest3 ∙ ap (λ (s : Linker). s.descended.keys) w.self-is) in
          let new : list_any (nat_eq k) s0.descended.keys ≡ false = sym (same_numbers s0.descended.keys k) ∙ not_true _ (sym c.in_ok-insert.ensures.added ∙ w.if-branch.true) in
          let items = w.deref-then-branch.ensures.value ∙ ap (λ (m : ComposableModule). m.imports.items) w.deref.ensures in
          let imports : LinksImports start.of_headers bs k b.imports s0.derived (insert_key nat_cmp s0.descended.keys k) n.derived s3.descended.keys = transport (λ j. LinksImports (inv.of_headers j) (builds_of (inv.builds j).now) k (map import_of (items j)) s0.derived (c.in_ok-insert.ensures.keys j) n.derived (keys j)) w.in_ok-link_imports.ensures.value in
          let linked : s3.derived ≡ link_items start.of_headers b (asked_of i b) n.derived = c.in_ok-link_asked.ensures.value ∙ (λ j. link_items (of_headers j) (same j) (asked_of i (same j)) (w.self-is j).derived) in
          record {
            builds = ap (λ (s : Linker). s.builds) rest3 ∙ ap (λ (s : Linker). s.builds) w.self-is ∙ w.link_imports.ensures.rest.0 ∙ inv.builds;
            of_headers = ap (λ (s : Linker). s.of_headers) rest3 ∙ of_headers;
            linked = more (links_after start.of_headers bs end apart i k e at is (omega arith) s0.derived n.derived s3.derived s0.descended.keys s3.descended.keys new imports linked);
            formed = c.in_ok-link_asked.ensures.formed;
          }
      | else-branch w ↦
          let of_headers : s2.of_headers ≡ start.of_headers = ap (λ (s : Linker). s.of_headers) w.self-is ∙ inv.of_headers in
          let unchanged : c.insert.new.self.keys ≡ s0.descended.keys = subst (λ (y : Bool). OnFalse y (c.insert.new.self.keys ≡ s0.descended.keys)) w.if-branch.false c.in_ok-insert.ensures.unchanged in
          let keys : s0.descended.keys ≡ s3.descended.keys = sym (ap (λ (s : Linker). s.descended.keys) rest3 ∙ ap (λ (s : Linker). s.descended.keys) w.self-is ∙ unchanged) in
          let known : list_any (nat_eq k) s0.descended.keys ≡ true = sym (same_numbers s0.descended.keys k) ∙ not_false _ (sym c.in_ok-insert.ensures.added ∙ w.if-branch.false) in
          let linked : s3.derived ≡ link_items start.of_headers b (asked_of i b) s0.derived = c.in_ok-link_asked.ensures.value ∙ (λ j. link_items (of_headers j) (same j) (asked_of i (same j)) (w.self-is j).derived) in
          record {
            builds = ap (λ (s : Linker). s.builds) rest3 ∙ ap (λ (s : Linker). s.builds) w.self-is ∙ inv.builds;
            of_headers = ap (λ (s : Linker). s.of_headers) rest3 ∙ of_headers;
            linked = more (subst (λ (ks : List ℕ). LinksImport start.of_headers bs end i s0.derived s0.descended.keys s3.derived ks) keys (links_known start.of_headers bs end apart i k e at is (omega arith) s0.derived s3.derived s0.descended.keys known linked));
            formed = c.in_ok-link_asked.ensures.formed;
          }
    ]
