-- The requests that wait at a node: what is said of them before and after an act, and that what is told as the commit index grows is told
-- of what is committed then. What is only asked of other members leaves all that as it is.
use Rattle.std.proofs.Common.{◌≡◌, ℕ, ◌<◌, nat_lt, Option, None, Some, List, [], refl, sym, subst}
use Rattle.std.specs.List.{All}
use Rattle.std.proofs.lemmas.List.Elements.{All-append, All-nil, All-same}
use Rattle.entry_frames.specs.Durable.{Durable}
use Rattle.entry_frames.specs.declared.message.Message.{Message}
use Rattle.entry_frames.specs.declared.role.Role.{Role}
use Rattle.entry_frames.specs.declared.role.Role.TheVariants.{Follower, Candidate, Preparing, Leader}
use Rattle.world_model.specs.Nodes.{Node, Volatile}
use Rattle.world_model.specs.Rules.Acts.{Act, followed_by, sending, stays}
use Rattle.world_model.specs.Rules.Applying.{act_of_applying, act_of_commit}
use Rattle.world_model.specs.Rules.Prepare.{act_of_asking_again, act_of_asking_all}
use Rattle.world_model.specs.Rules.Say.{act_of_saying}
use Rattle.world_model.specs.Rules.Tick.{act_of_beat}
use Rattle.world_model.specs.Rules.Want.{act_of_want, want_of, wanting}
use Rattle.world_model.proofs.Wanting.{gathering_keeps, want_keeps}
use Rattle.bridge.proofs.Replies.Applied.{waiting_reads}
use Rattle.bridge.proofs.Replies.Calls.{CallStands, CallsStand, IsToldBy, applying_told, each_stands, some_stand}
use Rattle.bridge.proofs.Replies.Reads.{ReadStands, ReadsStand}
use Rattle.bridge.proofs.Rules.Applying.{grows_or_stays}

-- of a node of that role: each request that waits to be applied has its entry in the log, and each that waits for a value found it
abbrev pub Waits : Role → Durable → Volatile → Type 0
Waits role d v = CallsStand role d.log v.calls × ReadsStand role d.log d.commit v.reads

-- so it is of a node
abbrev pub IsAnswering : Node → Type 0
IsAnswering n = Waits n.volatile.role n.durable n.volatile

-- so it is when a rule is done, and each reply is told of what is committed then
pub record ActAnswers (act : Act) : Type 0 where
  pub calls : IsAnswering act.node
  pub replies : All (IsToldBy act.node.durable.log act.node.durable.commit) act.replies

-- an act that tells clients nothing
pub silent : (act : Act) → act.replies ≡ [] → IsAnswering act.node → ActAnswers act
silent act none calls = record {
  calls = calls;
  replies =
      All-same (IsToldBy act.node.durable.log act.node.durable.commit) act.replies [] none
      (All-nil (IsToldBy act.node.durable.log act.node.durable.commit));
}

pub of_role : (n : Node) (role : Role) → n.volatile.role ≡ role → IsAnswering n → Waits role n.durable n.volatile
of_role n role e calls = subst (λ r. Waits r n.durable n.volatile) e calls

-- a node of that role
pub in_role : (n : Node) (role : Role) → n.volatile.role ≡ role → Waits role n.durable n.volatile → IsAnswering n
in_role n role e calls = subst (λ r. Waits r n.durable n.volatile) (sym e) calls

-- ---- a commit index that grows

module _ (n : Node) (index : ℕ) (sends : Node → List Message) (calls : IsAnswering n) where
  growing_answers : n.durable.commit < index → ActAnswers (followed_by (act_of_applying index n) (λ now. sending (sends now) (stays now)))
  growing_answers grows = record {
    calls = (
      some_stand (λ c. nat_lt index c.index) n.volatile.role n.durable.log n.volatile.calls calls.0,
      waiting_reads n.volatile.role n.durable.log n.volatile.calls n.durable.commit index n.volatile.reads grows calls.0 calls.1,
    );
    replies =
        All-append (IsToldBy n.durable.log index) (act_of_applying index n).replies []
        (applying_told n.durable.log n.volatile.calls (each_stands n.volatile.role n.durable.log n.volatile.calls calls.0) n.durable.commit index grows)
        (All-nil (IsToldBy n.durable.log index));
  }

  pub commit_answers : ActAnswers (followed_by (act_of_commit index n) (λ now. sending (sends now) (stays now)))
  commit_answers =
      grows_or_stays n index (λ act. ActAnswers (followed_by act (λ now. sending (sends now) (stays now)))) growing_answers (silent _ refl calls)

-- ---- a node that waits to answer nothing

abbrev pub NobodyWaits : Volatile → Type 0
NobodyWaits v = (v.calls ≡ []) × (v.reads ≡ [])

nothing_waits : (role : Role) (d : Durable) (v : Volatile) → NobodyWaits v → Waits role d v
nothing_waits Leader d v none =
    (All-same (CallStands d.log) v.calls [] none.0 (All-nil (CallStands d.log)), All-same (ReadStands d.log d.commit) v.reads [] none.1 (All-nil (ReadStands d.log d.commit)))
nothing_waits Follower d v none = none
nothing_waits Candidate d v none = none
nothing_waits Preparing d v none = none

pub still_waits : (n : Node) → NobodyWaits n.volatile → IsAnswering n
still_waits n none = nothing_waits n.volatile.role n.durable n.volatile none

-- ---- what is asked for

pub asking_again_answers : (cursor : Option ℕ) (n : Node) → IsAnswering n → ActAnswers (act_of_asking_again cursor n)
asking_again_answers None n calls = silent (stays n) refl calls
asking_again_answers (Some cursor) n calls = silent (act_of_asking_all cursor n) refl calls

-- a leader that sends to all others, and asks for what it wants
pub beat_answers : (n : Node) → IsAnswering n → ActAnswers (act_of_beat n)
beat_answers n calls =
    gathering_keeps n (λ next. ActAnswers (followed_by (act_of_saying n) (λ now. next))) (again (want_of n) n calls) (again (want_of n) (wanting (want_of n) n) calls)
  where
    again : (want : Option ℕ) (now : Node) → IsAnswering now → ActAnswers (followed_by (act_of_saying n) (λ it. act_of_asking_again want now))
    again None now calls = silent (followed_by (act_of_saying n) (λ it. stays now)) refl calls
    again (Some index) now calls = silent (followed_by (act_of_saying n) (λ it. act_of_asking_all index now)) refl calls

-- what is asked for behind an act tells clients nothing
pub want_answers : (act : Act) → ActAnswers act → ActAnswers (followed_by act act_of_want)
want_answers act answers =
    want_keeps act.node (λ next. ActAnswers (followed_by act (λ now. next))) (behind act.node answers.calls refl)
    (λ leads. again (want_of act.node))
  where
    behind : (now : Node) → IsAnswering now → now.durable ≡ act.node.durable → ActAnswers (followed_by act (λ it. stays now))
    behind now calls same = record {
      calls = calls;
      replies =
          All-append (IsToldBy now.durable.log now.durable.commit) act.replies []
          (subst (λ (d : Durable). All (IsToldBy d.log d.commit) act.replies) (sym same) answers.replies) (All-nil (IsToldBy now.durable.log now.durable.commit));
    }

    again : (want : Option ℕ) → ActAnswers (followed_by act (λ it. act_of_asking_again want (wanting (want_of act.node) act.node)))
    again None = behind (wanting (want_of act.node) act.node) answers.calls refl
    again (Some index) =
        let it = behind (wanting (want_of act.node) act.node) answers.calls refl in
        record { calls = it.calls; replies = it.replies }
