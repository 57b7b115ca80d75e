use denote.Exit.{yes}
use denote.Param.Send.{arg_send, param_send}
use Rattle.map_server.proofs.KeeperSends.{saving_sends}
use Rattle.map_server.proofs.tcp.attend_and_keep.Goals as goal

pub join-has_failed-requires-send-F : goal.join-has_failed-requires-send-F
join-has_failed-requires-send-F g c κs within =
    param_send 1 _ (arg_send _ yes _ (saving_sends _ _ _ _ _ _ _ _ _ _ _ _ c.type_bounds.send-E c.type_bounds.sync-H))
