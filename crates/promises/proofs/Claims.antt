-- Each claim, by its proof.
use Rattle.line.proofs.Claims.{line_book}
use Rattle.line.proofs.Sidings.{sidings}
use Rattle.line.proofs.Positions.{positions}
use Rattle.timing.proofs.Claims.{running_time_lem}
use Rattle.place.proofs.Claims.{place_reports}
use Rattle.tracks.proofs.Choice.{track_rule}
use Rattle.frame.proofs.RoundTrip.{round_trip as frames-read-back}
use Rattle.journal.proofs.Records.{logged_as_sent}
use Rattle.journal.proofs.Appended.{only_appended}
use Rattle.completion.proofs.StartAndEnd.{start_and_end}
use Rattle.completion.proofs.WithoutSidings.{without_sidings}
use Rattle.completion.proofs.Rule.{table_rule, unique_codes}
use Rattle.completion.proofs.Agreement.{first_move}
use Rattle.driver.proofs.Validity.{validity}
use Rattle.driver.proofs.Refusals.{refusals as unit-refusals}
use Rattle.driver.proofs.History.{history}
use Rattle.rules.proofs.Acceptance.{numbers_told}
use Rattle.rules.proofs.Refusals.{refusals}
use Rattle.rules.proofs.Repeats.{repeats_answered}
use Rattle.rules.proofs.Counts.{counts}
use Rattle.rules.proofs.OpeningCases.{opened_alike}
use Rattle.assurance.proofs.WholeList.{whole_list}
use Rattle.conduct.proofs.OneFrame.{consistent_kept, refusals_change_nothing, at_most_six, bit_in_table}
use Rattle.conduct.proofs.OneFrame.{track_found, exact_grant, oldest_first, right_grant}
use Rattle.conduct.proofs.LocalRuns.{local_runs_lem}
use Rattle.conduct.proofs.Repeats.{repeats_told_lem}
use Rattle.conduct.proofs.TrackKept.{track_kept}
use Rattle.conduct.proofs.Unread.{unread, left_alone}
use Rattle.conduct.proofs.Replies.{all_replies}
use Rattle.conduct.proofs.NeverStrange.{never_strange}
use Rattle.conduct.proofs.Homecoming.{homecoming}
use Rattle.conduct.proofs.Waiting.{no_needless_wait}
use Rattle.conduct.proofs.Arrival.{arrival_of_all}
use Rattle.conduct.proofs.Turns.{turn_by_turn}
use Rattle.conduct.proofs.RightTrack.{right_track}
use Rattle.conduct.proofs.Recorded.{journal_told}
use Rattle.conduct.proofs.FewRecords.{journal_never_full}
use Rattle.pair.proofs.Together.{cab_and_desk, units_made}
use Rattle.pair.proofs.Channel.{channel}
use Rattle.pair.proofs.Alone.{each_alone}
use Rattle.encoding.proofs.RoundTrip.{round_trip as bytes-read-back}
use Rattle.calls.proofs.HandedOn.{handed_on}
use Rattle.calls.proofs.CallRuns.{call_runs}
use Rattle.calls.proofs.TimeTold.{time_told}
use Rattle.calls.proofs.PlaceTold.{place_told}
use Rattle.console.proofs.Transcript.{transcribes}
use Rattle.examples.proofs.Examples.{examples, printed_run}
use Rattle.examples.proofs.Books.{books}
use Rattle.cases.proofs.Further.{older_then, stores, full_post, parked, six_trains, both_home, precedence}
use Rattle.stabling.proofs.Sidings.{siding_byte, still_needs_a_track, put_away, siding_state}
use Rattle.platforms.proofs.Tracks.{opened_tracks, tracks_in_turn, tracks_seen, track_states}
use Rattle.possessions.proofs.Gangs.{gang_on_x_lem, named, beside_trains, other_section, granting_after_lb, twenty_runs}
use Rattle.possessions.proofs.Gangs.{gang_states, gangs_seen}
use Rattle.distances.proofs.Evaluated.{position_bytes_lem, opened_with_positions, times, time_refusals}
use Rattle.distances.proofs.Evaluated.{answered_all_the_same}
use Rattle.places.proofs.Evaluated.{places, other_reports, place_refusals}
use Rattle.repeating.proofs.Evaluated.{repeats_on_x_lem, declined_again, last_move_only, high_counts, grants_nobody}
use Rattle.repeating.proofs.Evaluated.{last_moves, again_upward, again_elsewhere, lost_authority, lost_report}
use Rattle.counting.proofs.Evaluated.{last_answered_lem, strange_counts_lem, five_granted_lem, six_granted_lem}
use Rattle.counting.proofs.Evaluated.{fullest_run_lem}
use Rattle.journeys.proofs.Evaluated.{lost, repeated, reordered, delayed, elsewhere, beside_a_gang, no_event}
use Rattle.journeys.proofs.Evaluated.{both_covered, all_home}
use Rattle.promises.specs.Claims.{Parts, Cab, OneFrame, WholeLists, BothEnds, InUse, Evaluated}

pub parts : Parts
parts = record {
  book = line_book;
  sidings = sidings;
  positions = positions;
  running_time_lem = running_time_lem;
  place_reports = place_reports;
  tracks = track_rule;
  frames = frames-read-back;
  records = logged_as_sent;
  appended = only_appended;
  start_and_end = start_and_end;
  without_sidings = without_sidings;
  table = table_rule;
  codes = unique_codes;
  first_move = first_move;
  opened_alike = opened_alike;
}

pub cab : Cab
cab = record { validity = validity; numbers = unit-refusals; history = history }

pub one_frame : OneFrame
one_frame = record {
  numbers = refusals;
  told = numbers_told;
  refusals = refusals_change_nothing;
  valid = consistent_kept;
  counts = counts;
  unread = unread;
  left_alone = left_alone;
  track = track_found;
  track_kept = track_kept;
  exact = exact_grant;
  oldest = oldest_first;
  right = right_grant;
  bit = bit_in_table;
  local_runs_lem = local_runs_lem;
  at_most_six = at_most_six;
  replies = all_replies;
  repeats = repeats_answered;
}

pub whole_lists : WholeLists
whole_lists = record {
  whole_list = whole_list;
  never_strange = never_strange;
  homecoming = homecoming;
  arrival = arrival_of_all;
  repeats = repeats_told_lem;
  no_needless_wait = no_needless_wait;
  turns = turn_by_turn;
  right_track = right_track;
  journal = journal_told;
  few_records = journal_never_full;
}

pub both_ends : BothEnds
both_ends = record { together = cab_and_desk; units = units_made; channel = channel; alone = each_alone }

pub in_use : InUse
in_use = record {
  bytes = bytes-read-back;
  handed_on = handed_on;
  runs = call_runs;
  time_told = time_told;
  place_told = place_told;
  transcript = transcribes;
}

pub evaluated : Evaluated
evaluated = record {
  a_to_l = examples;
  printed_run = printed_run;
  books = books;
  older_then = older_then;
  stores = stores;
  full_post = full_post;
  parked = parked;
  six_trains = six_trains;
  both_home = both_home;
  precedence = precedence;
  siding_byte = siding_byte;
  still_needs_a_track = still_needs_a_track;
  put_away = put_away;
  siding_state = siding_state;
  opened_tracks = opened_tracks;
  tracks_in_turn = tracks_in_turn;
  tracks_seen = tracks_seen;
  track_states = track_states;
  gang_on_x_lem = gang_on_x_lem;
  named = named;
  beside_trains = beside_trains;
  other_section = other_section;
  granting_after_lb = granting_after_lb;
  twenty_runs = twenty_runs;
  gang_states = gang_states;
  gangs_seen = gangs_seen;
  position_bytes_lem = position_bytes_lem;
  opened_with_positions = opened_with_positions;
  times = times;
  time_refusals = time_refusals;
  answered_all_the_same = answered_all_the_same;
  places = places;
  other_reports = other_reports;
  place_refusals = place_refusals;
  repeats_on_x_lem = repeats_on_x_lem;
  declined_again = declined_again;
  last_move_only = last_move_only;
  high_counts = high_counts;
  grants_nobody = grants_nobody;
  last_moves = last_moves;
  again_upward = again_upward;
  again_elsewhere = again_elsewhere;
  lost_authority = lost_authority;
  lost_report = lost_report;
  last_answered_lem = last_answered_lem;
  strange_counts_lem = strange_counts_lem;
  five_granted_lem = five_granted_lem;
  six_granted_lem = six_granted_lem;
  fullest_run_lem = fullest_run_lem;
  lost = lost;
  repeated = repeated;
  reordered = reordered;
  delayed = delayed;
  elsewhere = elsewhere;
  beside_a_gang = beside_a_gang;
  no_event = no_event;
  both_covered = both_covered;
  all_home = all_home;
}
