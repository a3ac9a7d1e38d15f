mod FrameLaws
