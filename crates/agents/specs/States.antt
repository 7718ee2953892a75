-- The world that agents over a map are in, and what they offer.
use Rattle.std.specs.Prelude.{◌≡◌, ℕ, All, List, [], Option, Some, None, map}
use Rattle.tmm_model.specs.Lines.{IsWellFormedEdit}
use Rattle.tmm_model.specs.Standing.{Standing}
use Rattle.agents.specs.declared.agents.Agents.{Agents}
use Rattle.agents.specs.declared.agents.Offer.{Offer}
use Rattle.agents.specs.declared.making.BatchStop.{BatchStop}
use Rattle.agents.specs.declared.making.BatchStop.TheVariants.{Refused, NoMemory}
use Rattle.agents.specs.declared.making.Lagging.{Lagging}
use Rattle.agents.specs.Batches.{held_by, without}
use Rattle.agents.specs.Commits.{list_after}
use Rattle.agents.specs.Holdings.{IsHeld, batch_of}
use Rattle.agents.specs.Worlds.{World}

-- An agent's edits that are offered to be made, and the list that accepting leaves: the one after
-- all of them, or where one is refused, the one before.
pub record Offered : Type 0 where
  pub agent : List ℕ
  pub list : Standing

-- the world once an offer is accepted: nothing is held for its agent
abbrev pub taken_over : Offered → World → World
taken_over o w = record { list = o.list; batches = without w.batches o.agent }

-- where an edit is refused, what is offered leaves the list as it is; without memory nothing is
-- offered
abbrev pub OffersOnly : List ℕ → Standing → Option Offered → BatchStop → Type 0
OffersOnly agent list offers (Refused line refusal) = offers ≡ Some (record { agent = agent; list = list })
OffersOnly agent list offers NoMemory = offers ≡ None

module _ {M : Type 0} where
  -- their world
  abbrev pub world_of : (M → Standing) → Agents M → World
  world_of list a = record { list = list a.core; batches = map batch_of a.holdings.items }

  -- the list of a trial, where there is one, and else this one
  abbrev pub list_tried : (M → Standing) → Standing → Option (Lagging M) → Standing
  list_tried list old None = old
  list_tried list old (Some trial) = list trial.map

  -- what an offer comes to
  abbrev pub offered_by : (M → Standing) → Standing → Option (Offer M) → Option Offered
  offered_by list old None = None
  offered_by list old (Some offer) = Some (record { agent = offer.agent; list = list_tried list old offer.trial })

  -- what is offered
  abbrev pub offered : (M → Standing) → Agents M → Option Offered
  offered list a = offered_by list (list a.core) a.offer

  module _ (list : M → Standing) (pending : M → Option Standing) where
    -- a map of this list that lags behind by nothing
    pub record IsLevel (standing : Standing) (trial : Lagging M) : Type 0 where
      pub idle : pending trial.map ≡ None
      pub level : list trial.map ≡ standing
      pub empty : trial.lag.items ≡ []

    -- a map that lags behind this list by edits that lines can say
    pub record IsBehind (standing : Standing) (spare : Lagging M) : Type 0 where
      pub idle : pending spare.map ≡ None
      pub level : list_after (list spare.map) spare.lag.items ≡ standing
      pub well_formed : All (λ held. IsWellFormedEdit held.edit) spare.lag.items

    -- a map on which all that an agent holds is made
    abbrev pub IsTrial : World → List ℕ → Lagging M → Type 0
    IsTrial w agent trial = IsLevel (list_after w.list (held_by w.batches agent)) trial

    -- where there is a trial, it is such a map
    abbrev pub IsTried : World → List ℕ → Option (Lagging M) → Type 0
    IsTried w agent None = Unit {0}
    IsTried w agent (Some trial) = IsTrial w agent trial

    -- so is the one that is offered
    abbrev pub IsOffer : World → Option (Offer M) → Type 0
    IsOffer w None = Unit {0}
    IsOffer w (Some offer) = IsTried w offer.agent offer.trial

    -- a spare map lags behind this list
    abbrev pub IsSpare : Standing → Option (Lagging M) → Type 0
    IsSpare standing None = Unit {0}
    IsSpare standing (Some spare) = IsBehind standing spare

    -- no edit is pending, and what is held, offered and spare is as it should be
    pub record IsSettled (a : Agents M) : Type 0 where
      pub idle : pending a.core ≡ None
      pub tried : IsOffer (world_of list a) a.offer
      pub held : All IsHeld a.holdings.items
      pub spare : IsSpare (list a.core) a.spare

    -- so it is, and nothing is offered
    pub record IsReady (a : Agents M) : Type 0 where
      pub settled : IsSettled a
      pub idle : offered list a ≡ None
