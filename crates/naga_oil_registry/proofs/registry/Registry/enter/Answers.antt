use Rattle.std.proofs.Common.{◌≡◌, ◌++◌, ◌∷◌, [], None, string_bytes, string_eq, sym, subst, ap, ◌∙◌, rules}
use Rattle.std.specs.BTreeSet.{contains_text}
use Rattle.std.specs.Map.{values_of}
use Rattle.indexmap.specs.IndexMap.{get}
use Rattle.indexmap.proofs.CallerLemmas.{insert_entry-new}
use Rattle.naga_oil_registry.specs.Registered.{definition_of}
use Rattle.naga_oil_registry.specs.Registry.{registered, standing}
use Rattle.naga_oil_registry.specs.RegistryView.{newest_first, AreUnderNames, AreMarks}
use Rattle.naga_oil_registry.proofs.KeptLemmas.{kept_entries, stay_named, stay_newest, more_named, more_newest, unkept, marks_more}
use Rattle.naga_oil_registry.proofs.registry.Registry.enter.Goals as goal

pub invariant_of-self-2 : goal.invariant_of-self-2
invariant_of-self-2 c =
    let es = c.self.inside.modules.entries in
    let under = c.self.invariant.under in
    let ds = newest_first (values_of es) in
    let leaves = contains_text c.args.gone.now in
    let left = c.take_out.new.modules in
    let key = c.in_ok-name.name in
    let same : string_bytes key ≡ string_bytes c.args.of.name = search rules in
    let kept : left.entries ≡ kept_entries leaves es = c.take_out.ensures.entries ∙ ap (kept_entries leaves) c.in_ok-reserve.ensures.entries in
    let under_left : AreUnderNames left.entries = subst AreUnderNames (sym kept) (stay_named leaves es under) in
    let stands : newest_first (values_of left.entries) ≡ standing leaves ds = ap (λ xs. newest_first (values_of xs)) kept ∙ stay_newest leaves es under in
    let absent : get string_eq left key ≡ None = unkept (string_bytes c.args.of.name) key left.entries same under_left (ap (registered (string_bytes c.args.of.name)) (stands ∙ ap (standing leaves) c.self.view_is) ∙ c.requires) in
    let entries : c.insert.new.self.entries ≡ left.entries ++ (key, c.args.of) ∷ [] = c.in_ok-insert.ensures.entries ∙ insert_entry-new string_eq left key c.args.of absent in
    let whole : newest_first (values_of c.insert.new.self.entries) ≡ definition_of c.args.of ∷ standing leaves ds = ap (λ xs. newest_first (values_of xs)) entries ∙ more_newest left.entries key c.args.of ∙ ap (λ xs. definition_of c.args.of ∷ xs) stands in
    record {
      under = subst AreUnderNames (sym entries) (more_named left.entries key c.args.of same under_left);
      marked = subst (AreMarks c.mark.new.taken.items) (sym whole) (marks_more c.unmark.new.taken.items c.mark.new.taken.items (definition_of c.args.of) (standing leaves ds) c.mark.ensures (c.unmark.ensures ds c.self.invariant.marked));
    }

pub returns-clause-ok : goal.returns-clause-ok
returns-clause-ok c =
    let es = c.self.inside.modules.entries in
    let under = c.self.invariant.under in
    let ds = newest_first (values_of es) in
    let leaves = contains_text c.args.gone.now in
    let left = c.take_out.new.modules in
    let key = c.in_ok-name.name in
    let same : string_bytes key ≡ string_bytes c.args.of.name = search rules in
    let kept : left.entries ≡ kept_entries leaves es = c.take_out.ensures.entries ∙ ap (kept_entries leaves) c.in_ok-reserve.ensures.entries in
    let under_left : AreUnderNames left.entries = subst AreUnderNames (sym kept) (stay_named leaves es under) in
    let stands : newest_first (values_of left.entries) ≡ standing leaves c.args.self.now = ap (λ xs. newest_first (values_of xs)) kept ∙ stay_newest leaves es under ∙ ap (standing leaves) c.self.view_is in
    let absent : get string_eq left key ≡ None = unkept (string_bytes c.args.of.name) key left.entries same under_left (ap (registered (string_bytes c.args.of.name)) stands ∙ c.requires) in
    ap (λ xs. newest_first (values_of xs)) (c.in_ok-insert.ensures.entries ∙ insert_entry-new string_eq left key c.args.of absent) ∙ more_newest left.entries key c.args.of ∙ ap (λ xs. definition_of c.args.of ∷ xs) stands
