use Rattle.std.proofs.Common.{◌≡◌, [], ap, refl}
use Rattle.raft_voter.specs.Service.{TakesNothing}
use Rattle.raft_voter.specs.declared.service.RoundFault.{RoundFault}
use Rattle.raft_voter_log.proofs.Public.{of_refusals}
use Rattle.raft_voter_store.proofs.Public.{answers_in, cuts_in, of_answer}
use Rattle.raft_voter_shared_log.proofs.service.LogStoreRoundService.serve.Goals as goal

pub returns-clause-ok : goal.returns-clause-ok
returns-clause-ok g c =
    of_answer _ _ _ _ (λ told answered all. answers_in _ _ _ c.args.requests.now told c.args.self.now (record c.args.self.now { store = c.serve.new.self }) refl answered all) c.serve.ensures.ok c.serve.ensures.all

pub returns-clause-err : goal.returns-clause-err
returns-clause-err g c =
    of_refusals _ (λ (fault : RoundFault). TakesNothing fault.cause → (c.serve.new.self ≡ c.args.self.now.store) × (fault.refused ≡ [])) _ _ _ (λ (fault : RoundFault) none cut fails. cuts_in _ _ _ fault.cause c.args.requests.now fault.refused c.args.self.now (record c.args.self.now { store = c.serve.new.self }) refl fails
    (λ takes. (ap (λ store. record c.args.self.now { store = store }) (none takes).0, (none takes).1)) cut) c.serve.ensures.err c.serve.ensures.cut c.serve.ensures.errors
