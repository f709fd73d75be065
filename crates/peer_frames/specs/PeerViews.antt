-- What views of bodies show.
use Rattle.std.specs.Prelude.{ℕ}
use Rattle.entry_frames.specs.declared.peer.Peer.{Peer}
use Rattle.entry_frames.specs.declared.peer.Peer.TheVariants as peers
use Rattle.peer_frames.specs.declared.peer_view.PeerView.{PeerView}
use Rattle.peer_frames.specs.declared.peer_view.PeerView.TheVariants as views
use Rattle.peer_frames.specs.SlotViews.{entries_of_views, AllHaveK}

abbrev pub peer_of_view : PeerView → Peer
peer_of_view (views.Vote last_term last) = peers.Vote last_term last
peer_of_view (views.VoteReply granted) = peers.VoteReply granted
peer_of_view (views.Append prev prev_term commit entries) = peers.Append prev prev_term commit (entries_of_views entries)
peer_of_view (views.Matched prev count mask) = peers.Matched prev count mask
peer_of_view (views.Refused next) = peers.Refused next
peer_of_view (views.Ask start) = peers.Ask start
peer_of_view (views.Answer start last slots) = peers.Answer start last (entries_of_views slots)

-- its entries are those of a cluster with that k
abbrev pub PeerHasK : ℕ → PeerView → Type 0
PeerHasK k (views.Append prev prev_term commit entries) = AllHaveK k entries
PeerHasK k (views.Answer start last slots) = AllHaveK k slots
PeerHasK k _ = Unit {0}

abbrev pub HasNoEntries : PeerView → Type 0
HasNoEntries (views.Append prev prev_term commit entries) = ⊥
HasNoEntries (views.Answer start last slots) = ⊥
HasNoEntries _ = Unit {0}
