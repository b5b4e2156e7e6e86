use Rattle.std.proofs.Common.{◌≡◌, ap, ◌∙◌, string_bytes, rules}
use Rattle.yettuvam_files.specs.Files.{places_of, with_place}
use Rattle.yettuvam_files.proofs.Places.{inserted, seen}
use Rattle.yettuvam_files.proofs.files.set_place.Goals as goal

pub returns : goal.returns
returns c =
    let name : string_bytes c.in_ok-name.name ≡ c.args.name.now = search rules in
    ap seen c.in_ok-insert.ensures.entries ∙ inserted c.args.places.now.entries c.in_ok-name.name c.args.place
    ∙ ap (λ n. with_place (places_of c.args.places.now) n c.args.place) name
