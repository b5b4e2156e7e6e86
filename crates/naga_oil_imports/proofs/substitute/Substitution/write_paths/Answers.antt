use Rattle.std.proofs.Common.{◌≡◌, ◌<◌, length, ap, ◌∙◌, arith}
use Rattle.std.specs.String.{string_bytes}
use Rattle.naga_oil_imports.specs.Substituted.{longer_path, path_text, mentions_at}
use Rattle.naga_oil_imports.specs.Uses.{uses_of}
use Rattle.naga_oil_imports.proofs.SiteLemmas.{text_more, uses_more, begins_path, begins_paths, on_err}
use Rattle.naga_oil_imports.proofs.substitute.Substitution.write_paths.Goals as goal

pub returns-in_err-whole-clause-begun : goal.returns-in_err-whole-clause-begun
returns-in_err-whole-clause-begun c =
    on_err c.from_residual.result
    (begins_paths (mentions_at c.args.place) c.args.following.now c.args.paths.now c.loop-path.path-index (uses_of c.args.used_imports.now) (uses_of c.loop-path.used_imports) c.loop-path.invariant.used)

pub returns-in_err-write_path-clause-begun : goal.returns-in_err-write_path-clause-begun
returns-in_err-write_path-clause-begun c =
    let whole : c.as_str-in-loop-path.result.now ≡ longer_path (string_bytes c.path-item.result) c.args.following.now =
    c.as_str-in-loop-path.ensures.value ∙ c.in_ok-whole.ensures ∙ ap (λ p. longer_path p c.args.following.now) c.as_str.ensures.value in
    let within : c.loop-path.path-index < length c.args.paths.now = omega arith in
    on_err c.from_residual-in_err-write_path.result
    (begins_path (mentions_at c.args.place) c.args.following.now c.args.paths.now c.loop-path.path-index c.path-item.result c.as_str-in-loop-path.result.now
    (uses_of c.args.used_imports.now) (uses_of c.loop-path.used_imports) (uses_of c.write_path.new.used_imports) within c.path-item.is whole c.loop-path.invariant.used c.in_err-write_path.ensures.begun)

pub loop-path-preserved : goal.loop-path-preserved
loop-path-preserved c =
    let whole : c.as_str-in-loop-path.result.now ≡ longer_path (string_bytes c.path-item.result) c.args.following.now =
    c.as_str-in-loop-path.ensures.value ∙ c.in_ok-whole.ensures ∙ ap (λ p. longer_path p c.args.following.now) c.as_str.ensures.value in
    let within : c.loop-path.path-index < length c.args.paths.now = omega arith in
    record {
      text = λ w.
          text_more (path_text c.args.identifier.now) c.args.following.now c.args.paths.now c.loop-path.path-index c.path-item.result c.as_str-in-loop-path.result.now
          (string_bytes c.args.output.now) (string_bytes c.loop-path.output) (string_bytes c.write_path.new.output) within c.path-item.is whole (c.loop-path.invariant.text w) (c.in_ok-write_path.ensures.text w);
      unwritten = λ w. c.in_ok-write_path.ensures.unwritten w ∙ c.loop-path.invariant.unwritten w;
      used =
          uses_more (mentions_at c.args.place) c.args.following.now c.args.paths.now c.loop-path.path-index c.path-item.result c.as_str-in-loop-path.result.now
          (uses_of c.args.used_imports.now) (uses_of c.loop-path.used_imports) (uses_of c.write_path.new.used_imports) within c.path-item.is whole c.loop-path.invariant.used c.in_ok-write_path.ensures.used;
    }
