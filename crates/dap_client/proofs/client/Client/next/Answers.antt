use Rattle.std.proofs.Common.{ap, ◌∙◌, ◌++◌, inr, refl}
use Rattle.dap_client.specs.ClientState.{ClientState}
use Rattle.dap_client.proofs.Losing.{loses_message}
use Rattle.dap_client.proofs.client.Client.next.Goals as goal

pub returns-in-Err-append-clause-refused : goal.returns-in-Err-append-clause-refused
returns-in-Err-append-clause-refused c = λ no_fault.
    inr (loses_message c.args.self.now c.take.new.self _ c.args.piece.now.now c.in-Ok.got c.in-Ok.got.delivered _ refl c.in-Ok.ensures.takes (λ none. c.in-Err-append.ensures.some (c.deref.ensures.value ∙ none)) (ap (λ (z : ClientState). z.session) c.self-2.view_is))

pub returns-clause-gives : goal.returns-clause-gives
returns-clause-gives c = λ some. record {
  got = c.in-Ok.got;
  takes_it = c.in-Ok.ensures.takes;
  left_is = c.split_at.ensures.back;
  appended = c.in_default-append.ensures.ok ∙ ap (λ z. c.args.out.now.items ++ z) c.deref.ensures.value;
}
