use Rattle.std.proofs.Common.{◌≡◌, ap, ◌∙◌, string_bytes, rules}
use Rattle.yettuvam_wgsl_written_names.specs.Taken.{with_number, numbers_of}
use Rattle.yettuvam_wgsl_written_names.proofs.Numbers.{inserted, seen}
use Rattle.yettuvam_wgsl_written_names.proofs.taken.set_number.Goals as goal

pub returns : goal.returns
returns c =
    let name : string_bytes c.in_ok-name.name ≡ c.args.name.now = search rules in
    ap seen c.in_ok-insert.ensures.entries ∙ inserted c.args.numbers.now.entries c.in_ok-name.name c.args.number
    ∙ ap (λ n. with_number (numbers_of c.args.numbers.now) n c.args.number) name
