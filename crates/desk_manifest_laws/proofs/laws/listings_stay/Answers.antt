use Rattle.desk_manifest_laws.proofs.Listings.{listing_again}
use Rattle.desk_manifest_laws.proofs.laws.listings_stay.Goals as goal

pub returns : goal.returns
returns c = listing_again
