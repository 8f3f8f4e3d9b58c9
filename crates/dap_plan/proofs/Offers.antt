-- What is offered is served, or opened: each command, by the table.
use Rattle.std.proofs.Common.{refl}
use Rattle.dap_command.specs.declared.command.Command.TheVariants as command
use Rattle.dap_plan.specs.OfferLaws.{OffersAreServed, EachOfferIsServed, OpenedIsUnserved}

pub offers_are_served : OffersAreServed
offers_are_served command.Initialize = refl
offers_are_served _ = refl

pub each_offer_is_served : EachOfferIsServed
each_offer_is_served offer command.SetFunctionBreakpoints e = e
each_offer_is_served offer command.Restart e = e
each_offer_is_served offer command.Modules e = e
each_offer_is_served offer command.ExceptionInfo e = e
each_offer_is_served offer command.BreakpointLocations e = e
each_offer_is_served offer command.Completions e = e
each_offer_is_served offer _ e = refl

pub opened_is_unserved : OpenedIsUnserved
opened_is_unserved command.Initialize = refl
opened_is_unserved _ = refl
