use Rattle.std.proofs.Common.{ap, ◌∙◌, Some, subst, sym, option_map, string_bytes}
use Rattle.naga_oil_derive.specs.World.{value_of}
use Rattle.naga_oil_derive.specs.Copying.{goes_under}
use Rattle.naga_oil_derive.specs.Copied.{CopyState, copy_state, put_type}
use Rattle.naga_oil_derive.specs.Putting.{Putting, NothingPut, NoType}
use Rattle.naga_oil_walk.proofs.OptionLemmas.{none_of}
use Rattle.naga_oil_derive.proofs.CopiedLemmas.{named_gone, named_fresh}
use Rattle.naga_oil_derive.proofs.PuttingLemmas.{putting_copying, putting_type}
use Rattle.naga_oil_derive.proofs.copy.Copying.copy_named_type.Goals as goal

pub copy_type-requires-clause-long : goal.copy_type-requires-clause-long
copy_type-requires-clause-long c =
    let mid = c.copy_names.new.self in
    (putting_copying c.args.source.now c.args.self.now.target mid.target c.args.self.now.maps mid.maps c.requires.copying c.copy_names.ensures.putting).long

pub returns-then-has_gone-clause-copied : goal.returns-then-has_gone-clause-copied
unfolding goes_under
returns-then-has_gone-clause-copied c = named_gone (value_of c.args.source.now) c.args.self.now.maps.offset (option_map (λ n. Some (string_bytes n)) c.args.name) (copy_state c.args.self.now.maps c.args.self.now.target) c.args.handle c.has_gone.result c.has_gone.ensures c.if-has_gone.true

pub returns-clause-copied : goal.returns-clause-copied
unfolding goes_under
returns-clause-copied c =
    let old = c.args.self.now in
    let mid = c.copy_names.new.self in
    let new = c.copy_type.new.self in
    let v = value_of c.args.source.now in
    let o = option_map (λ n. Some (string_bytes n)) c.args.name in
    named_fresh v old.maps.offset o (copy_state old.maps old.target) (copy_state mid.maps mid.target) (copy_state new.maps new.target) c.args.handle c.in_ok-names.names.items c.requires.there.0 c.requires.there.1 c.has_gone.result c.has_gone.ensures c.if-has_gone.false c.in_ok-names.ensures (rw c.deref.ensures.value at c.in_ok-copy_names.ensures.copied) (c.in_ok-copy_type.ensures.put ∙ ap (λ d. put_type v d o (copy_state mid.maps mid.target) c.args.handle) c.copy_names.ensures.offset)

pub returns-then-has_gone-clause-putting : goal.returns-then-has_gone-clause-putting
returns-then-has_gone-clause-putting c = NoType NothingPut

pub returns-in_err-names-clause-putting : goal.returns-in_err-names-clause-putting
returns-in_err-names-clause-putting c = NoType NothingPut

pub returns-in_err-copy_names-clause-putting : goal.returns-in_err-copy_names-clause-putting
returns-in_err-copy_names-clause-putting c = NoType c.copy_names.ensures.putting

pub returns-in_err-copy_type-clause-putting : goal.returns-in_err-copy_type-clause-putting
returns-in_err-copy_type-clause-putting c =
    let old = c.args.self.now in
    let same = c.in_err-copy_type.ensures.err in
    NoType (subst (λ (s : CopyState). Putting (value_of c.args.source.now) old.maps.offset (copy_state old.maps old.target) s) (λ j. copy_state (sym same.1 j) (sym same.0 j)) c.copy_names.ensures.putting)

pub returns-clause-putting : goal.returns-clause-putting
returns-clause-putting c =
    let old = c.args.self.now in
    let mid = c.copy_names.new.self in
    let new = c.copy_type.new.self in
    putting_type c.args.source.now old.target mid.target new.target old.maps mid.maps new.maps c.args.handle (option_map (λ n. Some (string_bytes n)) c.args.name) c.in_ok-names.names.items c.requires.ranked c.requires.copying c.requires.there (none_of _ _ c.has_gone.ensures c.if-has_gone.false) c.in_ok-names.ensures c.copy_names.ensures.offset c.copy_names.ensures.putting (rw c.deref.ensures.value at c.in_ok-copy_names.ensures.copied) c.in_ok-copy_type.ensures.put
