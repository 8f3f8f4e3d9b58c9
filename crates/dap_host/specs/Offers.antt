-- What a host's file says that its adapter offers, and which commands the host answers.
-- Specification, "Capabilities". That they stand at `offers` and `open` beside the sources is this profile's choice.
use Rattle.std.specs.Prelude.{◌≡◌, List, [], ℕ, codes, false, ⊤, Option, Some, None, unwrap_or, Result, Ok, Err}
use Rattle.serde_json.specs.Data.{Data, object, no_members}
use Rattle.dap_json.specs.Field.{tree_at}
use Rattle.dap_json.specs.Read.{json_of}
use Rattle.dap_frame.specs.Settings.{Settings}
use Rattle.dap_command.specs.Offer.{usual_offer, opened_offer_in}
use Rattle.dap_command.specs.Opening.{opening_in}
use Rattle.dap_command.specs.declared.offer.Offer.{Offer}
use Rattle.dap_command.specs.declared.offer.OfferFault.{OfferFault}
use Rattle.dap_command.specs.declared.offer.OfferFault.TheVariants as offer
use Rattle.dap_command.specs.declared.opening.Opened.{Opened}
use Rattle.dap_command.specs.declared.opening.OpeningFault.{OpeningFault}
use Rattle.dap_command.specs.declared.opening.OpeningFault.TheVariants as opening
use Rattle.dap_plan.specs.Session.{offers_fit}
use Rattle.dap_host.specs.declared.offers.OffersFault.{OffersFault}
use Rattle.dap_host.specs.declared.offers.OffersFault.TheVariants.{NotList, BadName, NotObject, BadKey, TooLarge, OutOfMemory}

abbrev pub of_opening : OpeningFault → OffersFault
of_opening opening.NotList = NotList
of_opening (opening.BadName name) = BadName name
of_opening opening.OutOfMemory = OutOfMemory

abbrev pub of_offer : OfferFault → OffersFault
of_offer offer.NotObject = NotObject
of_offer (offer.BadKey key) = BadKey key
of_offer offer.OutOfMemory = OutOfMemory

-- where nothing is said, null too, none is opened
abbrev pub opening_at : Option Data → Result (List Opened) OpeningFault
opening_at None = Ok []
opening_at (Some d) = opening_in d

-- and nothing is taken back
abbrev pub offers_at : List Opened → Option Data → Result Offer OfferFault
offers_at opened given = opened_offer_in opened (unwrap_or given (object no_members))

abbrev pub or_fault : Result Offer OfferFault → Result Offer OffersFault
or_fault (Ok offers) = Ok offers
or_fault (Err f) = Err (of_offer f)

abbrev pub offers_beside : Result (List Opened) OpeningFault → Option Data → Result Offer OffersFault
offers_beside (Err f) given = Err (of_opening f)
offers_beside (Ok opened) given = or_fault (offers_at opened given)

abbrev pub offers_of : Option Data → Result Offer OffersFault
offers_of None = Ok usual_offer
offers_of (Some file) = offers_beside (opening_at (tree_at (codes "open") file)) (tree_at (codes "offers") file)

-- those of the JSON value that the bytes are
abbrev pub file_offers : List ℕ → Result Offer OffersFault
file_offers bytes = offers_of (json_of bytes)

-- they are read, and too long for the response that tells them
pub record AreTooLarge (limits : Settings) (read : Result Offer OffersFault) : Type 0 where
  pub offers : Offer
  pub are : read ≡ Ok offers
  pub long : offers_fit limits offers ≡ false

-- why they are refused
abbrev pub RefusesOffers : Settings → Result Offer OffersFault → OffersFault → Type 0
RefusesOffers limits read TooLarge = AreTooLarge limits read
RefusesOffers limits read OutOfMemory = ⊤
RefusesOffers limits read fault = read ≡ Err fault
