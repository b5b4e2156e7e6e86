use Rattle.naga_oil_mini.proofs.ListingLemmas.{listing_of}
use Rattle.naga_oil_mini.proofs.mini.listing.listing.Goals as goal

pub returns : goal.returns
returns c =
    listing_of c.args.of.now _ _ _ _ _ _ c.len-defines.ensures.ordered c.len-names.ensures.ordered
    c.new-out.ensures.items c.in_ok-push_path.ensures c.as_slice.ensures.value c.in_ok-push_imports.ensures c.in_ok-push_defines.ensures c.in_ok-push_names.ensures
